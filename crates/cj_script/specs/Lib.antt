pub mod Meaning
pub mod Fitting
pub mod Reading
