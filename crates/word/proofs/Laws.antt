-- Laws that other crates or several proofs cite, each after those that it rests on.
pub mod Bursts
pub mod Inputs
pub mod Word
pub mod Answers
pub mod Flips
pub mod Return
pub mod Exports
pub mod Sums
pub mod Checks
pub mod Distances
pub mod Judging
pub mod Lists
