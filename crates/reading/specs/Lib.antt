pub mod Reads
pub mod Places
