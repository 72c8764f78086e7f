-- what only private functions need
pub mod Writing
pub mod Ahead
