mod WordSums
mod HeadBytes
mod Pieces
pub mod DirectoryReading
mod FontReading
mod RecordSteps
pub mod Lift
