pub mod JobsLaws
pub mod UptoLaws
pub mod Fixed
pub mod TotalLaws
