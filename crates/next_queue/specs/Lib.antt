pub mod Lent
pub mod Wiring
pub mod Next
