pub mod ZonesNearCells
pub mod LabelRuns
pub mod Leaders
pub mod AreaSteps
pub mod WhatIsLeft
