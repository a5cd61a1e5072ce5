pub mod Axes
pub mod Layout
pub mod Ranges
pub mod SegmentMaps
