pub mod WiderLaws
pub mod SumLaws
pub mod Examples
