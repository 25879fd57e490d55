-- The statements, in the order in which to read them.
pub mod Demand3
pub mod Card2
pub mod Card3
pub mod Card4
pub mod Card7
pub mod Card12
pub mod Card13
