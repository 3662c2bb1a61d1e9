pub mod Steps
pub mod Exits
