pub mod Grids
pub mod NamesLaw
pub mod Renaming
