pub mod Knowledge
pub mod Flow
pub mod Folding
pub mod Search
