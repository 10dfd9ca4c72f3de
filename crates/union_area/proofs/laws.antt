-- what the proofs of other crates may cite
pub mod PartLaws
pub mod LineLaws
pub mod ClipLaws
pub mod GainLaws
