pub mod Outcomes
pub mod Checks
pub mod Laws
pub mod Answers
