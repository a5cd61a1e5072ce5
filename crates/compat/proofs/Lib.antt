pub mod Alike
mod Faults
mod Joined
mod Kept
mod Made
mod Marking
mod Named
mod Spreading
mod Steps
mod Stopping
mod Tours
mod Unique
