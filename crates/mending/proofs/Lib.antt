pub mod NextSaid
pub mod KeepLaws
pub mod ListLaws
pub mod Fixed
