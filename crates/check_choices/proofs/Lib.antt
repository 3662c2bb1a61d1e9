pub mod Bytes
pub mod Named
pub mod Senders
pub mod Picking
