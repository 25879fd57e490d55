-- Laws that other crates or several proofs cite, each after those that it rests on.
pub mod Taken
pub mod Full
pub mod Passing
