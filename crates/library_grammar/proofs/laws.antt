-- what crates above cite
pub mod Forms
pub mod Places
pub mod NextRecords
pub mod Standing
pub mod Sizes
pub mod Fields
pub mod Points
pub mod Kept
pub mod Libraries
