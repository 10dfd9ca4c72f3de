-- what only this crate's proofs and private contracts cite
pub mod DeepCells
pub mod SweepPlaces
pub mod Bars
pub mod Events
