pub mod Kinds
pub mod Spelling
pub mod Ranges
pub mod Values
pub mod Counting
pub mod Spells
pub mod Formats
