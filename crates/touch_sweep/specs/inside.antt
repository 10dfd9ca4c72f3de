pub mod Entries
pub mod Matches
pub mod Chains
pub mod Strips
pub mod Splits
pub mod Trees
