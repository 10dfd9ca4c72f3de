pub mod GaugeViews
pub mod NonzeroText
pub mod PeakText
pub mod WorstText
pub mod inside
