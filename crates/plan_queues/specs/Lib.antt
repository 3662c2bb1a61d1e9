pub mod Queue
pub mod Role
pub mod Feeds
pub mod Rings
