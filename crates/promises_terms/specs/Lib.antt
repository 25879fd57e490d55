-- The statements, in the order in which to read them.
pub mod Terms
pub mod Answers
