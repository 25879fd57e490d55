-- Laws that other crates or several proofs cite, each after those that it rests on.
pub mod Back
pub mod Blocks
pub mod Same
