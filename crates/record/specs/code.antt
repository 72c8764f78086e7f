-- what only private functions and laws need
pub mod Zeros
pub mod Rows
