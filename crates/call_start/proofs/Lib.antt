pub mod Fills
pub mod Credits
pub mod Turns
pub mod Begins
