pub mod Outlines
pub mod Fillings
pub mod Rectangles
pub mod Sights
-- what only this crate's proofs and private contracts cite
pub mod inside
