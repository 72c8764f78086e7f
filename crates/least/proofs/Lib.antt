pub mod Parts
pub mod Agreed
-- what later meetings of a variable cost
pub mod Later
-- the least cost, and the builder's plan
pub mod Minimum
pub mod Best
pub mod Exchange
pub mod Suffixes
pub mod Places
pub mod Measured
pub mod Closing
pub mod Counts
pub mod Scan
pub mod Building
pub mod Builder
pub mod LeastPlan
pub mod ScanLaws
pub mod Weighed
pub mod Pairs
pub mod FollowLaws
pub mod Again
pub mod Examples
pub mod WorkExamples
pub mod NamedExamples
pub mod NoneNamed
