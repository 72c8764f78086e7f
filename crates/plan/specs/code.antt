-- what only private functions need
pub mod Cells
pub mod Fits
pub mod Rows
