pub mod Anchoring
pub mod LabelledCells
pub mod Numbering
pub mod GroupSteps
