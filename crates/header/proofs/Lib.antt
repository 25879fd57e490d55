-- What the proofs of this crate share; Laws are for other crates too.
pub mod Cuts
pub mod Laws
pub mod Examples
