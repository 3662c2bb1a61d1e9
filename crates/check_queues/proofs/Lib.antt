pub mod Lined
pub mod Rowed
pub mod Numbers
pub mod Turns
pub mod Groups
