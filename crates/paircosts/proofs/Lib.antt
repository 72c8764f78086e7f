-- the notes at the cells of a row
pub mod NoteLaws
pub mod NotedLaws
pub mod FlagLaws
pub mod ShownLaws
pub mod PairNotes
pub mod RingLaws
pub mod RowLaws
pub mod AloneLaws
pub mod WalkLaws
pub mod ReadLaws
pub mod PartLaws
pub mod BestLaws
pub mod MarkLaws
-- the array
pub mod KeepLaws
pub mod FillLaws
pub mod RightLaws
pub mod LaidLaws
-- and what is answered
pub mod WorkedLaws
pub mod PlainLaws
pub mod Fixed
