pub mod Refusal
pub mod Read
pub mod Coded
