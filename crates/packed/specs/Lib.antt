pub mod FirstRun
pub mod Classes
pub mod Differences
pub mod Laws
