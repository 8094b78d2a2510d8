pub mod Machine
pub mod Same
pub mod Turning
pub mod Run
pub mod Fits
pub mod Whole
