pub mod Holding
pub mod Refusing
