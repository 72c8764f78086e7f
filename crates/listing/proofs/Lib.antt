pub mod MarkLaws
pub mod WalkLaws
pub mod LengthLaws
pub mod EntryLaws
pub mod Fixed
pub mod Examples
