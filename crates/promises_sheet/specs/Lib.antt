-- The statements, in the order in which to read them.
pub mod Runsheet
