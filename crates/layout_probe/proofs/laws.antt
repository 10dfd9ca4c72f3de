-- what the proofs of other crates may cite
pub mod AlikeLaws
pub mod ShortLaws
pub mod UniqueLaws
