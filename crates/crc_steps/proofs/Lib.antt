-- What the proofs of this crate share.
pub mod Sixes
pub mod Ahead
pub mod ByBytes
