pub mod Frames
pub mod Tallies
