pub mod Merge
pub mod Listing
mod Laying
pub mod Joined
mod Answered
mod Grouped
