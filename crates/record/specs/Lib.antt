pub mod Record
pub mod Edits
pub mod code
