pub mod StrataLaws
pub mod SampleLaws
mod Joins
mod Steps
