pub mod Mask
pub mod Column
pub mod States
pub mod Flags
pub mod code
