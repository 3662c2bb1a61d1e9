pub mod Stretch
pub mod Meaning
