pub mod AskedLaws
pub mod RowLaws
pub mod PassedLaws
