pub mod Sums
pub mod Count
