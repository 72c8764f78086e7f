pub mod EntryLaws
pub mod Fixed
