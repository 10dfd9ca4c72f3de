-- what the proofs of other crates may cite
pub mod VerdictLaws
pub mod StatusLaws
-- what readers answer
pub mod ReadingLaws
pub mod LayerCounts
