-- what only private functions need
pub mod Places
pub mod Steps
pub mod Tree
pub mod ForRun
