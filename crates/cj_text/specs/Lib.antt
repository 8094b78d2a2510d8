pub mod Reads
pub mod Answers
pub mod Written
pub mod Canonical
