-- what only private functions need
pub mod Asked
pub mod Upto
