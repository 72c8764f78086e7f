pub mod OneLaws
pub mod UptoLaws
pub mod JobsLaws
pub mod Fixed
