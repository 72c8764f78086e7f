pub mod Kept
pub mod Salvage
pub mod Answers
