-- what contracts of other crates cite
pub mod Labels
pub mod Zones
-- what only this crate's proofs and private contracts cite
pub mod inside
