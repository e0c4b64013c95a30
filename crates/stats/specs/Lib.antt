pub mod Stats
pub mod Blocks
pub mod Table
pub mod Seen
pub mod Laws
pub mod Cases
