pub mod Agreed
pub mod Alive
pub mod Reaching
pub mod Right
pub mod Instead
pub mod Examples
