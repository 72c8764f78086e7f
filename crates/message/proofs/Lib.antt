pub mod ReasonLaws
pub mod LineLaws
