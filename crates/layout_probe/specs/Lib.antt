-- what contracts of other crates cite
pub mod NearestNets
pub mod Probe
pub mod ProbeText
-- what only this crate's proofs and private contracts cite
pub mod inside
