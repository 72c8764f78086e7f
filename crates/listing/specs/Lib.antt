pub mod Listing
pub mod code
