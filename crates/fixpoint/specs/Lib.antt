pub mod DecimalText
pub mod PartsView
pub mod Rounding
