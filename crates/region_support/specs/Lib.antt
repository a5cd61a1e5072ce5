pub mod MasterOrder
pub mod Sorting
pub mod Keys
pub mod Regions
pub mod Coordinates
pub mod Laws
