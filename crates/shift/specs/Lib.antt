pub mod Totals
pub mod code
