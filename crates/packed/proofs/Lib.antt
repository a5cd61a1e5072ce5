pub mod FirstRun
pub mod RunLists
pub mod DeltaRuns
pub mod PointRuns
pub mod OneSpelling
