pub mod Scopes
pub mod Operands
pub mod Instructions
pub mod Functions
pub mod Meaning
pub mod Prescans
pub mod Reading
pub mod Known
