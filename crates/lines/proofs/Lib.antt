pub mod Texts
pub mod Digits
pub mod Gathering
pub mod Cleaning
pub mod Back
pub mod Lined
pub mod Turns
pub mod Examples
