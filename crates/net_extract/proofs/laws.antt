-- what the proofs of other crates may cite
pub mod BesideLaws
pub mod CarryLaws
pub mod UnitLaws
pub mod ClusterLaws
pub mod GroupSetLaws
pub mod NamedLaws
pub mod StandsLaws
pub mod OpenLaws
