pub mod Build
pub mod code
