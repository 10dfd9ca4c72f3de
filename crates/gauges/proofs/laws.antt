-- what crates above cite
pub mod Told
