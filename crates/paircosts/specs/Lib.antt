pub mod Fill
pub mod code
