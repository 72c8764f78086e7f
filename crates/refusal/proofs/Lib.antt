pub mod RefusalLaws
pub mod CodedLaws
