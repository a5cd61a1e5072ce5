pub mod Variations
pub mod Conditions
pub mod Draws
