-- Every booked entry has one owner.
pub mod Owning
pub mod Packets
pub mod Same
pub mod Listed
pub mod Made
pub mod Steps
pub mod Units
pub mod Closing
pub mod Ties
pub mod Table
