pub mod Says
pub mod code
