-- what crates above cite
pub mod Generated
