-- The core is kept: packets are where they belong.
pub mod Parts
pub mod Lines
pub mod Read
pub mod Execute
pub mod Write
pub mod Calls
