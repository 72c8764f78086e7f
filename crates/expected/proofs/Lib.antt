pub mod FoundLaws
pub mod SayLaws
