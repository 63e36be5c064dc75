pub mod Fronts
pub mod LittleEndian
pub mod Making
pub mod Payloads
pub mod Rules
