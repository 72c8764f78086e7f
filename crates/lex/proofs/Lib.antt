pub mod ByteLaws
pub mod TurnLaws
pub mod FactLaws
pub mod NameLaws
pub mod Fixed
