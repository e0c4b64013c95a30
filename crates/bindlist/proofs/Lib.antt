pub mod Placing
pub mod Reading
