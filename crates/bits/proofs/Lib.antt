-- What the proofs of this crate share; Laws are for other crates too.
pub mod Changing
pub mod Fields
pub mod Joining
pub mod Stretches
pub mod Windows
pub mod Laws
