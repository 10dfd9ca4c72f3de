-- what the proofs of other crates may cite
pub mod LeastLaws
pub mod StartLaws
pub mod NetStartLaws
pub mod PieceNets
pub mod NumberedNets
pub mod BesideLaws
