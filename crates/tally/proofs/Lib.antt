pub mod AddLaws
pub mod Fixed
