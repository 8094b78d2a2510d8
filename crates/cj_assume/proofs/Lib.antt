pub mod Conditions
pub mod AssumeRows
pub mod AssumeSound
pub mod AssumedGuards
