pub mod PlacesLaws
pub mod AloneLaws
pub mod BranchLaws
pub mod TreeLaws
pub mod ChainLaws
pub mod EntryLaws
pub mod HandedLaws
pub mod Fixed
