pub mod ItemLaws
pub mod CountLaws
pub mod KeepLaws
pub mod Fixed
pub mod WideLaws
pub mod LentLaws
