pub mod ZerosLaws
