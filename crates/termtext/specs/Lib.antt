pub mod Saying
pub mod Goal
pub mod code
