-- what the proofs of other crates may cite
pub mod AskedLaws
pub mod CountLaws
pub mod RegionLaws
pub mod AlikeLaws
