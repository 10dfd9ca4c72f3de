-- what crates above cite
pub mod ListedCovers
pub mod PlacedShapes
pub mod RouteEnds
