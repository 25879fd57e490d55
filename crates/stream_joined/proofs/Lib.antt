-- What the proofs of this crate share.
pub mod Rooms
pub mod Bytes
pub mod Fill
