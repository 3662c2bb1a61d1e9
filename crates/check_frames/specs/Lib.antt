pub mod Frame
pub mod Tally
