pub mod Calls
pub mod Clocks
pub mod Faults
pub mod Hands
pub mod Meanings
pub mod Methods
pub mod Pairs
pub mod Stages
