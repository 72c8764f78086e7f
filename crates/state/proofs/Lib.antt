pub mod MaskLaws
pub mod ColumnLaws
pub mod RowsLaws
pub mod FirstLaws
pub mod Fixed
pub mod FlagsLaws
