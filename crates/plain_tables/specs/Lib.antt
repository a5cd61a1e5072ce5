pub mod Conditions
pub mod FixedFields
pub mod FontHeader
pub mod GlyphMeasures
pub mod GlyphNames
pub mod HorizontalMetrics
pub mod StyleMetrics
