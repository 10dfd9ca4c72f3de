-- what the proofs of other crates may cite
pub mod NearIslandLaws
