pub mod PathPieces
pub mod Covers
pub mod RoutePoints
pub mod ShapeChecks
pub mod Coverings
pub mod CoverFaults
-- what only this crate's proofs and private contracts cite
pub mod inside
