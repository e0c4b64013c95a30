pub mod Cases
pub mod Stern
pub mod SternLaws
