-- What the proofs of this crate share; Laws are for other crates too.
pub mod Lone
pub mod Swept
pub mod Seen
pub mod Laying
pub mod Laws
