-- what contracts of other crates cite
pub mod Rings
pub mod IslandHoles
pub mod RingAnswers
-- what only this crate's proofs and private contracts cite
pub mod inside
