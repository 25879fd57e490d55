-- Laws that other crates or several proofs cite, each after those that it rests on.
pub mod Markers
pub mod Places
pub mod Return
pub mod Spacing
pub mod Symbols
