pub mod Walk
pub mod Served
pub mod Drawn
pub mod Steps
pub mod Inside
pub mod Alike
