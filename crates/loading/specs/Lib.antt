pub mod Load
pub mod Items
