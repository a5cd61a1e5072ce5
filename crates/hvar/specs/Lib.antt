pub mod Advances
pub mod IndexMap
pub mod Layout
