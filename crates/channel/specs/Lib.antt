-- Definitions, in the order in which to read them; Inner has those of private contracts.
pub mod Channel
pub mod Inner
