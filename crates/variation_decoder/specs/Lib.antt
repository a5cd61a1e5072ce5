pub mod Reading
pub mod Deltas
pub mod Points
pub mod Tuples
