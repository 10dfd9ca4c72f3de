-- what crates above cite
pub mod Routes
pub mod Placings
pub mod Refusals
