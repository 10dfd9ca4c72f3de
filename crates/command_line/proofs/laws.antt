-- what crates above cite
pub mod Requests
