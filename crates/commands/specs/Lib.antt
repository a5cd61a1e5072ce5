pub mod Command
pub mod Words
pub mod Proper
pub mod Syntax
pub mod Taken
