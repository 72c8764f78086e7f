pub mod Liked
pub mod code
