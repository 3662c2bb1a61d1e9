pub mod Awaiting
pub mod Reading
