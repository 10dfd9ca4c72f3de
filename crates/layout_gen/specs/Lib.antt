-- what is generated
pub mod SmallOutlines
pub mod Generated
-- that its numbers and bytes fit their fields, which the values carry with them
pub mod Fitting
