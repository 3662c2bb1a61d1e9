pub mod Exits
pub mod Right
