pub mod Paths
pub mod Starts
pub mod ArcLemmas
pub mod SetLemmas
pub mod BoundLemmas
pub mod FillLemmas
