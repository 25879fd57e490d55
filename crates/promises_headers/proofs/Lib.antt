-- The theorems, a file to a demand or card, and what several of them need.
mod HeaderBytes
pub mod QuestionsHold
pub mod Card6
pub mod EdgesHold
