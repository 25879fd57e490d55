-- The theorems, a file to a demand or card, and what several of them need.
pub mod Demand1
pub mod HeaderRefusalsHold
pub mod Card9
pub mod Card11
