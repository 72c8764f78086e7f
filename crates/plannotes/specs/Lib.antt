pub mod Noted
pub mod code
