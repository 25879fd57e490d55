-- What the proofs of this crate share; Laws are for other crates too.
pub mod Laws
pub mod Pieces
pub mod Fifths
pub mod Eights
pub mod Tens
