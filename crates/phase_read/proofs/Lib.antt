pub mod Offsets
pub mod Arrivals
pub mod Flags
pub mod Phase
pub mod Awaited
