pub mod Least
pub mod Measures
pub mod Later
pub mod Entries
pub mod code
