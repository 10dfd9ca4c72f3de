pub mod HostileTexts
pub mod PairTexts
