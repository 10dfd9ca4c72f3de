-- what the proofs of other crates may cite
pub mod UniqueLaws
pub mod AlikeLaws
pub mod ListLaws
pub mod WindowLaws
pub mod CutLaws
