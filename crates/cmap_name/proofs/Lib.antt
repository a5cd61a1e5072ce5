pub mod FormatFour
pub mod FormatTwelve
pub mod GroupLemmas
pub mod MapReading
pub mod NameReading
pub mod UnitLemmas
