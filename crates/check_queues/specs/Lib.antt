pub mod Ready
pub mod Lines
