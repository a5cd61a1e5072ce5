pub mod Fonts
pub mod DefaultOutline
pub mod Fit
