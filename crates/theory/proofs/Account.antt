-- The core is kept: credit + queued + wire + raised flag is the capacity.
pub mod Paid
pub mod Read
pub mod Units
pub mod Execute
pub mod Write
pub mod Calls
