pub mod Deltas
pub mod Tables
pub mod Outlines
pub mod GlyphModels
