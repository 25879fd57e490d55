-- The words of private contracts; no definition here has to be believed.
pub mod Inner
