pub mod Bytes
pub mod Changing
pub mod Coding
pub mod Faults
pub mod Numbered
pub mod Numbers
