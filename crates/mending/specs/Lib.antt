pub mod Mending
pub mod code
