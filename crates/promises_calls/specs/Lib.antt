-- The statements, in the order in which to read them.
pub mod Demand1
pub mod HeaderRefusals
pub mod Card9
pub mod Card11
