mod Finding
pub mod Places
