pub mod OptionNames
pub mod Spelling
pub mod Numbers
pub mod CellTexts
pub mod RegionTexts
pub mod RequestLimits
pub mod Requests
pub mod WordsFaults
pub mod WordsCauses
-- what only this crate's proofs and private contracts cite
pub mod inside
