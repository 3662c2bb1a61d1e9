pub mod Look
pub mod Asked
