pub mod ReadCuts
pub mod ReadLayers
pub mod ReadMetals
pub mod ReadTerminals
pub mod ReadValues
