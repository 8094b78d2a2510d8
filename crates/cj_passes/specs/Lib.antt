pub mod Lowering
pub mod Search
pub mod Pipeline
pub mod OnePass
