pub mod Seats
pub mod Preparing
pub mod Rounds
