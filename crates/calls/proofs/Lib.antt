pub mod Opening
pub mod Turning
