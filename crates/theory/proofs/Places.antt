-- Where packets are: walks closed under going on, the lines of queues, what each step makes, the senders of an output.
pub mod Feeders
pub mod Closure
pub mod CameIn
pub mod Lines
pub mod Makes
pub mod Senders
pub mod Slots
pub mod Indices
