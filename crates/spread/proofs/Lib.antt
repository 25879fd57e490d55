-- What the proofs of this crate share; Laws are for other crates too.
pub mod Changed
pub mod Laws
