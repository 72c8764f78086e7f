pub mod Words
pub mod Message
pub mod code
