pub mod Scan
pub mod code
