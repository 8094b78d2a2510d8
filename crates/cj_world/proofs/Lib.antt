pub mod Gaining
pub mod Trails
pub mod Calls
pub mod Finding
pub mod Steps
pub mod Reporting
pub mod Changing
pub mod Playing
pub mod Uniqueness
pub mod Answering
mod Looking
mod Ways
mod Going
