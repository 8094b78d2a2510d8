pub mod Watching
pub mod Engines
pub mod Stretches
pub mod Stopped
