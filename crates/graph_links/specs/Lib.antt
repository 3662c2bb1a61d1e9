pub mod Cells
pub mod Starts
