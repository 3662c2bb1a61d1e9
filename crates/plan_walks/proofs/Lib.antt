pub mod Through
pub mod Stood
pub mod Ends
