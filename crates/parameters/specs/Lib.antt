-- Definitions.
pub mod Parameters
