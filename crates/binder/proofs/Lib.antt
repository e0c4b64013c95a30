pub mod Settings
pub mod Writing
pub mod Fetching
