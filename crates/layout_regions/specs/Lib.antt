-- what contracts of other crates cite
pub mod Regions
-- what only this crate's proofs and private contracts cite
pub mod inside
