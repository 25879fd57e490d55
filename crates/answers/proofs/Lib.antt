-- What the proofs of this crate share; Laws are for other crates too.
pub mod Laws
