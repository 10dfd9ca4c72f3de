-- what the proofs of other crates may cite
pub mod SeamLaws
pub mod TallyingLaws
