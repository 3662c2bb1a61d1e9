pub mod Steps
pub mod Bytes
pub mod Tables
pub mod Senders
pub mod Choosing
pub mod Asked
pub mod Loops
