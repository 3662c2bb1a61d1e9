pub mod Steps
pub mod Arrive
pub mod Everywhere
pub mod Charts
pub mod Sizes
pub mod Sifting
pub mod Meeting
