pub mod Keeping
pub mod Warming
pub mod Calling
pub mod Stores
