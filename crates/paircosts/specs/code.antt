-- what only private functions need
pub mod Notes
pub mod Reading
pub mod Filling
