pub mod Instance
pub mod Reply
pub mod Replied
pub mod ReplyJobs
pub mod Rewrite
pub mod code
