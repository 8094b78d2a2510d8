pub mod Calls
pub mod Roles
pub mod Slots
pub mod Dealt
pub mod Joined
pub mod Piles
pub mod Ran
