-- what contracts of other crates cite
pub mod TilesAlong
pub mod Tiles
pub mod TileTallies
pub mod NearTiles
