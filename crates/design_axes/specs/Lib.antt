pub mod Axes
pub mod Elements
pub mod Names
pub mod Spots
pub mod Values
