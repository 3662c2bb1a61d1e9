pub mod Rows
pub mod Refuse
pub mod Tests
pub mod Steps
pub mod Served
pub mod Pairs
