-- what only private functions need
pub mod After
pub mod Renamed
pub mod Tree
pub mod Loose
