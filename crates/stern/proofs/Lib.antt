pub mod Plains
pub mod Thirteens
