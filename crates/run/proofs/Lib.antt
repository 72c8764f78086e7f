pub mod TestLaws
pub mod EntryLaws
