-- Laws that other crates or several proofs cite, each after those that it rests on.
pub mod Parts
pub mod Row
pub mod Answers
pub mod Return
pub mod Said
