-- the library of rectangles, and what it covers
pub mod RegionLibraries
pub mod RegionCells
-- that its numbers and bytes fit their fields, which the values carry with them
pub mod RegionFits
