pub mod Senders
pub mod Halves
pub mod Turns
pub mod Phase
