pub mod Marks
pub mod Routing
