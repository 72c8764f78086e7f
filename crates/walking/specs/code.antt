-- what only private functions need
pub mod Link
pub mod Steps
pub mod Frames
pub mod Goal
pub mod Walk
