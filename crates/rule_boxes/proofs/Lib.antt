mod IntervalLemmas
mod AreaLemmas
mod LayingLaws
mod FineLemmas
mod OverlayLaws
mod JoiningLemmas
mod MergeLemmas
mod CutLemmas
mod WeightLemmas
mod AlignedLemmas
mod GridLaw
mod MarkLemmas
mod WholeLemmas
mod RisingLemmas
mod ApartLemmas
mod CellLaws
pub mod BoxLaws
