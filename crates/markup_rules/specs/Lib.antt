pub mod Bytes
pub mod Faults
pub mod Outcome
pub mod Reading
pub mod Syntax
pub mod Tree
