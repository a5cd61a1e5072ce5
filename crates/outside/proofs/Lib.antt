pub mod Saying
mod Gathering
pub mod Streams
pub mod Puts
mod Cut
mod SlotLists
