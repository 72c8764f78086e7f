pub mod All
pub mod Table
pub mod code
