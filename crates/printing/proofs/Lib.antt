pub mod SymbolLaws
pub mod LengthLaws
pub mod FrontLaws
pub mod ListedLaws
pub mod Fixed
