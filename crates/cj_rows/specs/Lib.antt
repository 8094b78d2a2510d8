pub mod Rows
pub mod Rooms
pub mod Pairs
pub mod Guards
pub mod Places
pub mod Edges
pub mod Tables
