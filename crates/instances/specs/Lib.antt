pub mod Settings
pub mod Witness
pub mod Edges
