-- Laws that other crates or several proofs cite, each after those that it rests on.
pub mod Refusals
pub mod Return
pub mod Places
pub mod Steps
