pub mod Does
pub mod Invariant
pub mod Weights
pub mod Owners
pub mod Promises
