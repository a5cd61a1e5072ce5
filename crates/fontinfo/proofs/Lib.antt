pub mod Plain
pub mod Short
