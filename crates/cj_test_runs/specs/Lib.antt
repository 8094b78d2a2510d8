pub mod NoCodes
pub mod Walks
pub mod OneVersion
