pub mod Plan
pub mod Forms
pub mod Bytes
pub mod Parting
