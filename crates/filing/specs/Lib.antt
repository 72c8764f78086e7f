pub mod Files
pub mod Answers
pub mod code
