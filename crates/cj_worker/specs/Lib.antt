pub mod Tasks
pub mod Answers
pub mod Workers
