-- what only private functions need
pub mod Room
