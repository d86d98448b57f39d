pub mod Sums
pub mod Design
pub mod Outcomes
pub mod Answers
pub mod Bounds
pub mod Calls
pub mod Replay
