-- The theorems, a file to a demand or card, and what several of them need.
mod Accepted
mod PlacesHold
mod WordValues
pub mod Demand2
pub mod Card1
pub mod Card5
pub mod FindFromHolds
pub mod Places
