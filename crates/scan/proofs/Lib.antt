pub mod LevelLaws
pub mod MoveLaws
pub mod FactLaws
pub mod CountLaws
pub mod SaysLaws
pub mod Fixed
