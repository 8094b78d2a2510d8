pub mod Rules
pub mod Tallies
pub mod OneEvent
pub mod Meaning
pub mod Fitting
pub mod Playable
pub mod Reading
pub mod Replays
