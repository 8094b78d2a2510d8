pub mod Activations
pub mod Windows
pub mod Changes
