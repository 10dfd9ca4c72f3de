-- what contracts of other crates cite
pub mod PairAreas
-- what only this crate's proofs and private contracts cite
pub mod inside
