pub mod StartLaws
pub mod MarkLaws
