pub mod Axes
pub mod Bounds
pub mod Layout
pub mod Limits
pub mod SimpleGlyphs
pub mod Slices
