pub mod Gaining
pub mod Gaps
pub mod Hulls
pub mod TwoLeast
