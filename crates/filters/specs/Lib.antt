pub mod Applied
pub mod InOrder
pub mod Reverse
pub mod Shift
