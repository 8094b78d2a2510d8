pub mod Inlining
pub mod Entries
