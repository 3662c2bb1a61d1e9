pub mod Apart
pub mod Numbers
pub mod OutNumbers
pub mod Runs
