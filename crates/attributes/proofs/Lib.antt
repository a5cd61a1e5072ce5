pub mod Readings
pub mod Within
