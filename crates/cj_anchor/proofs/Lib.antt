pub mod AnchorSound
pub mod AnchorSteps
pub mod UniqueAnchors
