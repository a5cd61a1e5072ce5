pub mod MovingLemmas
pub mod GlyphLemmas
pub mod DrawsLemmas
pub mod LoopLemmas
pub mod ModelLemmas
