pub mod TextLemmas
pub mod ListSteps
pub mod NameLemmas
