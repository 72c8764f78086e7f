pub mod Runs
pub mod Plans
pub mod Named
pub mod Check
pub mod Notes
pub mod code
