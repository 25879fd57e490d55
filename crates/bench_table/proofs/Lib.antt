-- What the proofs of this crate share.
mod Given
mod Table
