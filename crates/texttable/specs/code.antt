-- what only private functions need
pub mod Tree
pub mod Names
pub mod Numbers
pub mod Cells
