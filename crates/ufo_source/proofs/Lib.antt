mod Codes
pub mod Distinct
pub mod Drawings
mod Empty
mod Further
mod Masters
mod Named
mod Ordered
mod Then
