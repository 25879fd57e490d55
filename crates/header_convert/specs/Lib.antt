-- Definitions.
pub mod Convert
