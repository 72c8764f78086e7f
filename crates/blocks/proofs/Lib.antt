pub mod SumsLaws
pub mod BlockLaws
pub mod LookLaws
pub mod PutLaws
pub mod Fixed
