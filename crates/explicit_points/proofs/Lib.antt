pub mod ContourSteps
pub mod ExplicitLemmas
pub mod LawLemmas
pub mod MovingLemmas
pub mod SetsLemmas
