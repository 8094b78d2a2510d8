pub mod States
pub mod Totals
pub mod Fine
pub mod Written
pub mod Readings
