-- The theorems, a file to a demand or card, and what several of them need.
pub mod Card10
