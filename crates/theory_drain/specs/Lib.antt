pub mod Left
pub mod Waits
pub mod AtTheEnd
pub mod EmptyBy
pub mod Program
