-- what only this crate's proofs and private contracts cite
pub mod Growths
pub mod MissingSpans
pub mod Ranks
pub mod Scans
