pub mod DelayedAssume
pub mod CountedEdges
pub mod DelaySteps
