-- Laws that other crates or several proofs cite, each after those that it rests on.
pub mod Lone
pub mod Needs
pub mod Swept
pub mod Groups
pub mod Pulses
pub mod Zeros
