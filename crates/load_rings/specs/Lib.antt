pub mod Rounds
pub mod Circles
pub mod RingTest
pub mod Told
