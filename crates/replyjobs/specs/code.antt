-- what only private functions need
pub mod Shift
pub mod Upto
