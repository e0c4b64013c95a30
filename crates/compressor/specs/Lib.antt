pub mod Compressed
pub mod Decompressed
