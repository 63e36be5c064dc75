mod Appending
mod ByteRuns
mod Cutting
pub mod EntrySteps
pub mod Runs
mod Seeking
