pub mod TextLaws
pub mod MeasureLaws
pub mod LineLaws
pub mod WalkLaws
pub mod PlainLaws
pub mod BytesLaws
pub mod EntryLaws
