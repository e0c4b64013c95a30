pub mod Sizes
pub mod Settled
pub mod Rooms
pub mod Places
