-- The theorems, and what several of them need.
pub mod RunsheetHolds
