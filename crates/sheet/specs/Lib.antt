-- Definitions, in the order in which to read them; Inner has those of private contracts.
pub mod Text
pub mod Line
pub mod Inner
