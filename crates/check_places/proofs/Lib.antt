pub mod OnTrack
pub mod ComesIn
pub mod Fitting
pub mod Crossing
pub mod Law
pub mod Exits
pub mod SideIn
