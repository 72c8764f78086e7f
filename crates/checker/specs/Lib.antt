pub mod Checked
pub mod code
