-- Definitions, in the order in which to read them; Inner has the words of private contracts.
pub mod Basics
pub mod Pack
pub mod Count
pub mod Inner
