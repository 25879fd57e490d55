-- What the proofs of this crate share.
pub mod Bytes
pub mod Spare
