pub mod AxisLemmas
pub mod OrderLemmas
pub mod InfluenceLemmas
pub mod SortLemmas
pub mod KeyLemmas
pub mod LocationLemmas
pub mod RegionLaw
pub mod RangeLemmas
