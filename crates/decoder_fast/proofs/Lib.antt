-- What the proofs of this crate share.
pub mod Outputs
pub mod Reading
