pub mod Words
pub mod Kinds
pub mod Columns
pub mod Refusals
pub mod Views
