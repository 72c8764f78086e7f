pub mod Looking
pub mod Words
pub mod Expected
