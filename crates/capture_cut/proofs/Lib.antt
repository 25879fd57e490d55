-- What the proofs of this crate share; Laws are for other crates too.
pub mod Bytes
pub mod Lengths
pub mod Laws
