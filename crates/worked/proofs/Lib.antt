pub mod Keeping
pub mod Limiting
