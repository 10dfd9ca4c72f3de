-- what crates above cite
pub mod Maps
