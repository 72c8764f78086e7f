pub mod Ended
pub mod code
