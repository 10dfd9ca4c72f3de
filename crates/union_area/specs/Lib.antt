pub mod WindowParts
pub mod PartRects
-- what only this crate's proofs and private contracts cite
pub mod inside
