pub mod Differences
pub mod Flats
pub mod Flattened
pub mod Names
pub mod References
pub mod Searches
pub mod Stops
pub mod Walks
