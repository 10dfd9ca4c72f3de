-- what crates above cite
pub mod Rules
pub mod Bodies
pub mod Reals
pub mod Splits
