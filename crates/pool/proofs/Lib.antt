-- What the proofs of this crate share; Laws are for other crates too.
pub mod Joining
pub mod Front
pub mod Single
pub mod Examples
pub mod Laws
