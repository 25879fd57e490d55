-- What the proofs of this crate share.
pub mod Decimals
pub mod Pieces
pub mod Examples
pub mod Input
