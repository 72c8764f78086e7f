pub mod Grammar
pub mod Stops
pub mod Numbers
pub mod Meaning
pub mod Numbering
pub mod Other
pub mod Taken
pub mod Reader
