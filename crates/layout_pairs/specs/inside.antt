pub mod NumberedPairs
