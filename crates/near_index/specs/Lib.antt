-- what contracts of other crates cite
pub mod Kept
pub mod Near
pub mod Nearest
-- what only this crate's proofs and private contracts cite
pub mod inside
