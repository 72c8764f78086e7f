pub mod RangeLaws
pub mod SeenLaws
pub mod LookLaws
