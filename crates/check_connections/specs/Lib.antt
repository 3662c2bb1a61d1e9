pub mod Claims
pub mod Given
