pub mod Terms
pub mod Unify
pub mod Bind
pub mod Ends
pub mod code
