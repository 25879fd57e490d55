-- What the proofs of this crate share.
pub mod Numbers
pub mod Starts
pub mod Begins
