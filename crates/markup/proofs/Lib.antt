pub mod Ascii
pub mod ByteSearch
mod Clauses
pub mod Endings
pub mod Lengths
pub mod Prefixes
pub mod Loops
mod NameSets
pub mod Openings
pub mod PlainLemmas
pub mod PlainRuns
pub mod PlainValues
pub mod Tables
pub mod Taking
