pub mod Printing
pub mod code
