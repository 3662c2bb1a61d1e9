pub mod Walks
pub mod Sides
pub mod Numbers
pub mod CameIn
pub mod Places
pub mod Fitting
