-- Laws, for other crates too.
pub mod Laws
