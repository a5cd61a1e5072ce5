pub mod Tags
pub mod Utf16
