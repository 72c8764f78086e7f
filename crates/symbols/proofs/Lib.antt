pub mod NextLaws
pub mod LeftLaws
pub mod Fixed
