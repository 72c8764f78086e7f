pub mod Figure
pub mod WorkLaws
