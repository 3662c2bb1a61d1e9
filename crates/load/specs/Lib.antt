pub mod Load
pub mod Rules
pub mod Runs
pub mod Refused
pub mod Walk
pub mod Lent
