-- how the plan is written, and what is answered
pub mod AgreedLaws
pub mod AskedLaws
pub mod OpenLaws
pub mod AheadLaws
pub mod ClosingLaws
pub mod ChooseLaws
pub mod WritingLaws
pub mod AloneLaws
pub mod TakingLaws
pub mod PlannedLaws
pub mod BuildLaws
pub mod RecordLaws
pub mod ColumnsLaws
pub mod Fixed
