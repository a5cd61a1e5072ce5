mod Folder
mod Locations
mod Names
mod Order
mod Pairs
mod Whole
