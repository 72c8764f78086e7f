-- what only private functions need
pub mod Lines
pub mod Sizes
