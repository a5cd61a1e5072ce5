pub mod PartLemmas
pub mod HeaderLemmas
pub mod GlyphLemmas
pub mod SizeLemmas
pub mod OneWriting
pub mod TableLemmas
pub mod TableReading
