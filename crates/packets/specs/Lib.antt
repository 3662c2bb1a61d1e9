pub mod Counters
pub mod Answers
pub mod Codes
pub mod Directions
