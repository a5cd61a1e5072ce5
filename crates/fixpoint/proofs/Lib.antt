pub mod DecimalLaws
mod Numbers
pub mod RoundingLemmas
