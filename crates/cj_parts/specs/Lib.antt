pub mod Parts
pub mod PartsLaws
pub mod Known
pub mod Looks
pub mod Calls
pub mod Runs
