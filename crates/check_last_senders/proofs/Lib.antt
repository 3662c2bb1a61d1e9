pub mod Ranks
pub mod Remembered
