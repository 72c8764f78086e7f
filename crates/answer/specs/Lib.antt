pub mod Skeleton
pub mod Run
pub mod Jobs
pub mod code
