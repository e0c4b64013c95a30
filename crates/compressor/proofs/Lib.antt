pub mod Cleaning
pub mod Writing
