pub mod Calls
pub mod Conditions
pub mod Demand1
pub mod Demand2
pub mod Demand3
pub mod FirstRun
pub mod TurnAbout
pub mod LookDrop
