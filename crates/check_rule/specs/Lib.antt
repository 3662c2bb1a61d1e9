pub mod Forms
pub mod Parts
pub mod Check
