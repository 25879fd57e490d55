-- What the proofs of this crate share.
pub mod Columns
pub mod Joining
