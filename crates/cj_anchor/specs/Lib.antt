pub mod AnchorInsertion
pub mod OneAnchor
