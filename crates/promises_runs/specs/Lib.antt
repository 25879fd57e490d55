-- The statements, in the order in which to read them.
pub mod Demand2
pub mod Card1
pub mod Card5
pub mod FindFrom
pub mod Places
