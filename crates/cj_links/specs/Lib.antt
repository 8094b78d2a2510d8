pub mod Waiting
pub mod Slots
pub mod EdgeTable
pub mod UseTable
pub mod Threads
