pub mod Forgetting
pub mod Lowering
pub mod Meetings
pub mod Passing
pub mod SearchCalls
pub mod SearchEnds
pub mod Holding
