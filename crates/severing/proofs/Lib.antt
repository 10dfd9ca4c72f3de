pub mod PathMaps
pub mod RemovalLaws
pub mod OpenLaws
pub mod AdvanceLaws
pub mod MoveLaws
pub mod TurnedLaws
pub mod NotedLaws
pub mod SteadyLaws
