pub mod Windows
pub mod Rings
pub mod Members
pub mod Chains
pub mod Threading
pub mod Giving
pub mod UseLemmas
