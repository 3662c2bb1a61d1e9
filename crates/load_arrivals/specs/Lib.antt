pub mod Tables
pub mod Charted
pub mod Pairs
pub mod Tracks
