pub mod Runs
pub mod Depths
-- what only this crate's proofs and private contracts cite
pub mod inside
