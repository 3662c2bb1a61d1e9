pub mod Ties
pub mod Test
pub mod Runs
pub mod Clauses
