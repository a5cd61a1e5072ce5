pub mod WordLemmas
pub mod LocatedLemmas
pub mod ParsingLemmas
