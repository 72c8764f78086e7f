pub mod Asked
pub mod code
