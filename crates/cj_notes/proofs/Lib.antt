pub mod Unique
pub mod Standing
pub mod Looking
pub mod Working
pub mod Turning
pub mod Doing
pub mod Telling
