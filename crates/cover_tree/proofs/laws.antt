-- what the proofs of other crates may cite
pub mod ColumnLaws
pub mod DepthLaws
