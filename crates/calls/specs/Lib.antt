pub mod Openings
pub mod Calls
pub mod Runs
pub mod Going
