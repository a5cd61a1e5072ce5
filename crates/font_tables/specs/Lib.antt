pub mod Outlines
pub mod FontFacts
pub mod FontNames
pub mod FontAxes
pub mod Drawable
pub mod ShortNames
