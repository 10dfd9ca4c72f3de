-- what contracts of other crates cite
pub mod Cuts
pub mod NetLists
pub mod NetFacts
pub mod NetFaults
pub mod Extraction
pub mod ContactGroups
pub mod Standing
pub mod AnchoredIslands
-- what only this crate's proofs and private contracts cite
pub mod inside
