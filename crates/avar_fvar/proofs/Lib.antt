pub mod AxesReading
pub mod SegmentReading
