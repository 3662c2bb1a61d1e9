pub mod Crossings
pub mod Equal
pub mod Tests
pub mod Drawn
pub mod Found
pub mod Tables
