pub mod ByHand
pub mod Behind
