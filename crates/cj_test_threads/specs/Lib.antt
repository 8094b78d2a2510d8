pub mod Increment
pub mod Doubles
