pub mod Bytes
pub mod Counts
