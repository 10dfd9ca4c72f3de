-- what crates above cite
pub mod RegionCells
pub mod RegionBytes
