pub mod Bytes
pub mod FailureCounts
pub mod Held
pub mod ReadAnswers
