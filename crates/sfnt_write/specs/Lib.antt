pub mod FontFile
pub mod Tables
pub mod Layout
pub mod Holds
pub mod Steps
pub mod Laws
