pub mod Framing
pub mod Kinds
pub mod Numbers
pub mod Heads
pub mod ImageLines
pub mod Changes
pub mod Commands
