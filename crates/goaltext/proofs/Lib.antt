pub mod NameLaws
pub mod StepLaws
pub mod AskedLaws
pub mod Fixed
