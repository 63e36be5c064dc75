pub mod BookCase
pub mod Cases
