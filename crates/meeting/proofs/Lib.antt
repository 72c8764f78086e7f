pub mod PartLaws
pub mod TermLaws
pub mod TurnLaws
pub mod SwapLaws
