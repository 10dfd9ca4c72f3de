-- what contracts of other crates cite
pub mod HalfBoxes
pub mod Footprints
-- what only this crate's proofs and private contracts cite
pub mod inside
