pub mod Degrees
pub mod Index
pub mod Spreading
