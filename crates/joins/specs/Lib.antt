pub mod Faults
pub mod Joining
pub mod Merging
