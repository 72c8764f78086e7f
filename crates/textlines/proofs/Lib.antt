pub mod LineLaws
pub mod RowLaws
pub mod LengthLaws
pub mod Enough
pub mod EntryLaws
pub mod Fixed
pub mod Examples
