pub mod Distances
pub mod Outlines
