pub mod Decides
pub mod Fitting
pub mod Packets
pub mod Parts
pub mod Ties
pub mod Turns
pub mod Law
