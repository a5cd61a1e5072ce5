pub mod Coverage
pub mod Lookups
pub mod Features
pub mod Variations
pub mod Table
pub mod Meaning
pub mod Layout
pub mod Limits
