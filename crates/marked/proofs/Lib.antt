pub mod Above
pub mod Cases
pub mod Refuted
