pub mod Reading
pub mod Losses
pub mod Holding
