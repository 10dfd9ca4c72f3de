-- what contracts of other crates cite
pub mod Halves
pub mod Walks
pub mod Nets
pub mod Faults
pub mod Vias
pub mod Areas
pub mod RectChains
pub mod IslandLists
-- what the laws of this crate alone cite
pub mod FaultConsequences
pub mod FaultNames
