pub mod Parting
pub mod Joining
pub mod Marking
pub mod IslandBoxes
pub mod Keeping
pub mod Thinning
pub mod Releasing
