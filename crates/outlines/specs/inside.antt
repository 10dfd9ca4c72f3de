pub mod FillingDepths
pub mod OutlineTurns
pub mod Pieces
pub mod FillingRuns
pub mod Fronts
