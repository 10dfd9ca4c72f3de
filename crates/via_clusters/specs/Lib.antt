-- what contracts of other crates cite
pub mod Blocks
pub mod Clusters
-- what only this crate's proofs and private contracts cite
pub mod inside
