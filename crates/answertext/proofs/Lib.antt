pub mod WordLaws
pub mod LevelLaws
pub mod BytesLaws
