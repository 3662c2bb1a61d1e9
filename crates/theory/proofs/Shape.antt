-- The shape of each phase is kept: arbitration, choices, flags and empty wires.
pub mod Arbitration
pub mod Spared
pub mod Read
pub mod Execute
pub mod Write
pub mod Calls
pub mod Phases
