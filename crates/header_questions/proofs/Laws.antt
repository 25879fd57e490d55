-- Laws that other crates or several proofs cite, each after those that it rests on.
pub mod Edges
pub mod Good
pub mod InOrder
pub mod Marks
