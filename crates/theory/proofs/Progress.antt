-- A packet under way moves in S rounds.
pub mod Follow
pub mod Stuck
pub mod Interval
pub mod Still
pub mod Moving
pub mod First
pub mod Undisturbed
pub mod Rounds
pub mod FromRead
