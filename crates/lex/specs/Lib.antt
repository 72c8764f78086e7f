pub mod Turns
pub mod Heads
pub mod Names
pub mod code
