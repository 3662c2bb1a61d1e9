pub mod Acts
pub mod Counts
