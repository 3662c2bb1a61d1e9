pub mod Leaf
pub mod Along
pub mod Claiming
pub mod Tying
pub mod Starting
pub mod Pairs
pub mod Exits
