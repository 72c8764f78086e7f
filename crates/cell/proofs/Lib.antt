pub mod Pack
pub mod SignedLaws
pub mod SameLaws
pub mod CellLaws
pub mod Fixed
