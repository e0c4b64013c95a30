pub mod Excluding
pub mod Eligibles
