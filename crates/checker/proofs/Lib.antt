pub mod StateLaws
pub mod AloneLaws
pub mod LoopLaws
pub mod EntryLaws
pub mod Accepts
pub mod Fixed
pub mod SaidLaws
