pub mod BoundsLemmas
pub mod PointLemmas
pub mod RecordReading
pub mod SizeLemmas
pub mod TableReading
pub mod WriterSteps
