pub mod ListLaws
pub mod ReadBack
pub mod Examples
pub mod Fixed
