pub mod Tuples
pub mod Layout
pub mod Table
pub mod Laws
