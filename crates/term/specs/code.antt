-- what only private functions need
pub mod Owed
pub mod Fresh
pub mod Unifiable
