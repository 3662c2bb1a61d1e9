pub mod Stretches
pub mod Bringing
pub mod UnitQueue
pub mod Carrying
pub mod Outgoing
pub mod Phased
