pub mod Head
pub mod Plan
pub mod Rules
pub mod Tables
pub mod Found
pub mod Lent
pub mod Samples
