pub mod Codes
pub mod Wires
pub mod Joining
pub mod Part
