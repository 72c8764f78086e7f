pub mod PastLaws
pub mod FoldLaws
pub mod RunLaws
pub mod OwnLaws
pub mod VisitLaws
pub mod ShortLaws
pub mod EntryLaws
pub mod Fixed
