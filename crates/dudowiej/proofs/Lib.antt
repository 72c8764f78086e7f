pub mod Places
pub mod CutLaws
pub mod Small
pub mod Fixed
pub mod Back
pub mod CodeLaws
