pub mod CodeEnds
pub mod ExtentRanges
pub mod FieldReading
pub mod FieldRanges
pub mod GlyphLemmas
pub mod MeasureSteps
pub mod MetricReading
pub mod NameReading
