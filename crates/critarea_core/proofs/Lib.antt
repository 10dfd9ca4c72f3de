pub mod TerminalLaws
pub mod AnalysisLaws
pub mod PrintLaws
pub mod RegionLaws
pub mod RunLaws
