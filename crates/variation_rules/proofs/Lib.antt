pub mod DrawingLemmas
pub mod InferredLemmas
pub mod FillingLemmas
pub mod FillsAreOne
pub mod FontUnitLemmas
