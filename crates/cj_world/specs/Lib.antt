pub mod Worlds
pub mod Plays
pub mod Played
pub mod Caches
pub mod Running
