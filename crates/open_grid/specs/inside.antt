pub mod ZoneNeeds
pub mod ZoneCounts
pub mod ZoneSteps
pub mod Wires
