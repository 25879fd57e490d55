-- Laws that other crates or several proofs cite, each after those that it rests on.
pub mod Rack
pub mod Answers
pub mod Places
pub mod Held
pub mod Unseen
