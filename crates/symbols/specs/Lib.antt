pub mod Next
pub mod code
