pub mod AddLaws
pub mod GatherLaws
pub mod Fixed
