-- what crates above cite
pub mod SameParts
pub mod Names
