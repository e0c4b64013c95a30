pub mod Payloads
pub mod Nodes
pub mod Reading
pub mod Forms
