pub mod Jobs
pub mod Causes
pub mod Standing
pub mod JobParts
pub mod Works
pub mod Turns
pub mod Waiting
