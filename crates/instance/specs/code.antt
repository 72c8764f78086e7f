-- what only private functions, proofs and the functions between crates need
pub mod Left
pub mod Meet
pub mod Passes
