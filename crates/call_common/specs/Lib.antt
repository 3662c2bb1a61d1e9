pub mod Visits
pub mod Pairs
