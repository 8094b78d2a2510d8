pub mod Versions
pub mod Sessions
pub mod Laws
