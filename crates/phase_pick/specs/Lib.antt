pub mod Moments
pub mod Senders
