pub mod CharacterLayout
pub mod Characters
pub mod Codes
pub mod Groups
pub mod NameLayout
pub mod Names
pub mod Steps
pub mod Utf16
