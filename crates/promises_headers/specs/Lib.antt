-- The statements, in the order in which to read them.
pub mod Questions
pub mod Card6
pub mod Edges
