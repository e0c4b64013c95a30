pub mod Stored
pub mod Leaves
pub mod Rooms
pub mod Deciding
pub mod Levelling
pub mod Scheming
pub mod Samples
