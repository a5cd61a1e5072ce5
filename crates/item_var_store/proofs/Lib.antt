pub mod RowLemmas
pub mod StoreReading
