pub mod MasterLaw
pub mod SumSteps
pub mod GlyphLemmas
pub mod NumberLemmas
pub mod Columns
pub mod TableLemmas
pub mod OfRegions
