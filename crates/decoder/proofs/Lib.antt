-- What the proofs of this crate share.
pub mod Rates
pub mod Agreeing
