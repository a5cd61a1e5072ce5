pub mod Document
pub mod GlyphOrder
pub mod Limits
pub mod Naming
pub mod Sources
