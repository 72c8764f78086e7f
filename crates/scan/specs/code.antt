-- what only private functions need
pub mod Levels
pub mod Arguments
pub mod Facts
