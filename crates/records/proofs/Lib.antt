pub mod Framed
pub mod OneNumber
pub mod FieldBytes
pub mod HeadBytes
pub mod LineBytes
pub mod CommandValues
pub mod SameChanges
pub mod ChangeBytes
