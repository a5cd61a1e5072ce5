pub mod Bytes
pub mod Kept
pub mod Kinds
pub mod Optional
pub mod Reading
