-- what the crate's own proofs and private contracts cite
pub mod Reporting
