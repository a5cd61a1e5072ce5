mod Applying
pub mod Images
