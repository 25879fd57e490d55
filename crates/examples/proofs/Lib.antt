-- What the proofs of this crate share.
pub mod Fades
pub mod Rack
