pub mod ColumnLaws
pub mod MaskLaws
pub mod SearchLaws
pub mod Fixed
