-- what crates above cite
pub mod Written
pub mod WellFormed
