-- 'Runs to compare' of document 01, and more of the same kind: each is one list of calls. proofs/Runs has the theorems
-- that evaluate them.
pub mod Watch
pub mod FirstBookings
pub mod LastFree
pub mod Spent
pub mod Declined
pub mod TornDown
pub mod Order
pub mod Heads
pub mod Wrap
pub mod Capacities
pub mod Turns
pub mod Entries
pub mod Refusals
pub mod Closed
pub mod Looking
pub mod Crossing
pub mod BothEnds
pub mod Waited
pub mod Queues
pub mod NoCredit
pub mod Spoilt
pub mod Reached
