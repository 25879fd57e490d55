-- Laws that other crates or several proofs cite, each after those that it rests on.
pub mod Check
pub mod Bytes
pub mod Difference
pub mod Found
