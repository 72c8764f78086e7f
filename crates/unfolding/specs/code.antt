-- what only private functions need
pub mod Walk
pub mod Folds
pub mod Visits
pub mod Branch
