pub mod Flat
pub mod Unfolds
pub mod code
