pub mod Moments
pub mod Lent
