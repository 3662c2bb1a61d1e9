pub mod JointTests
pub mod JointLaws
pub mod Fill
