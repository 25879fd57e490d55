-- The definitions of private contracts; none of them has to be believed.
pub mod Inner
