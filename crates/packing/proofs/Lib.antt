pub mod Below
pub mod Digits
pub mod Packed
pub mod Written
mod Little
mod Steps
mod Cuts
mod Held
mod Loaded
pub mod Bits
