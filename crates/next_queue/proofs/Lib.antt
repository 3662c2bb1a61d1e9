pub mod Numbered
pub mod Onward
