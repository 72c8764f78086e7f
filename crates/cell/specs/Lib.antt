pub mod Signed
pub mod Cell
pub mod Same
