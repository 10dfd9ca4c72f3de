-- what the proofs of other crates may cite
pub mod AlikeLaws
pub mod SearchLaws
pub mod TouchLaws
pub mod PairLaws
pub mod MetalLaws
pub mod AskedLaws
pub mod PairRowLaws
pub mod ReportLaws
