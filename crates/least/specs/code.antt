-- what only private functions and laws need
pub mod Best
pub mod Low
pub mod Pairs
pub mod Follow
