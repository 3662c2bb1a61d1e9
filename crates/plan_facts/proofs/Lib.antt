pub mod Heads
pub mod Fields
pub mod Tables
pub mod Joints
pub mod Wires
