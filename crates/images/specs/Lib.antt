pub mod Faults
pub mod Images
pub mod Parts
pub mod Reading
pub mod Walks
