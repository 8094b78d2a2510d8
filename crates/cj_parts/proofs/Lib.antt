pub mod Known
pub mod Growth
pub mod Rising
pub mod Counting
pub mod Calling
pub mod Finding
pub mod Seats
