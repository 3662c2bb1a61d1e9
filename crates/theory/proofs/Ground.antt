-- Values, numbers, sums and stores: what the rest of the theory counts and compares with.
pub mod Sums
pub mod Puts
pub mod Cells
