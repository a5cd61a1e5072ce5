pub mod DeltaSets
pub mod Layout
pub mod Rows
pub mod Store
