pub mod Layouts
pub mod Walk
pub mod Fronts
pub mod Accepted
pub mod Only
pub mod Written
pub mod Refused
mod Outlines
pub mod Handing
pub mod Walks
