pub mod ListLaws
pub mod ApartLaws
pub mod ListedLaws
