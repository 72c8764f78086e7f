pub mod Reasons
pub mod code
