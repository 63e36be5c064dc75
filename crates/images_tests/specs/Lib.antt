pub mod Wide
pub mod WideBytes
