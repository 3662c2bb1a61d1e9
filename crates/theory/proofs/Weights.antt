-- Sums of weights over all packets, what each step does to one, and two of them: allowances and launches.
pub mod Total
pub mod Moves
pub mod Changes
pub mod Spending
pub mod Allowance
pub mod Launches
