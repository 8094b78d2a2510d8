pub mod DeadSound
pub mod ByHandSound
pub mod BehindSound
