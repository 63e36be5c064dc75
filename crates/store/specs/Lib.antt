pub mod CellRules
pub mod States
pub mod Steps
pub mod Validity
