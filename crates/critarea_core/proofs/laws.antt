-- what the proofs of other crates may cite
pub mod FreshRuns
-- odd sides beside even ones
pub mod OddSideLaws
pub mod OddAreaLaws
-- what probes tell
pub mod ProbeLaws
