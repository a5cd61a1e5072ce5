pub mod AdvanceReading
