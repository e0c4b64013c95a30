pub mod Choice
pub mod Levels
pub mod Plans
pub mod Openings
pub mod NodesOf
pub mod Standing
