-- What the proofs of this crate share; Laws are for other crates too.
pub mod Filling
pub mod Ending
pub mod Laws
