pub mod Start
pub mod Sound
pub mod Rows
