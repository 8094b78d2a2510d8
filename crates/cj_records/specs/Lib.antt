pub mod Notes
pub mod Setups
pub mod Items
pub mod Records
pub mod Chains
pub mod Versions
pub mod Loops
