pub mod LayerMap
pub mod Layers
pub mod Limits
pub mod MapView
pub mod Measures
pub mod NameFields
pub mod LayerNames
pub mod MapNames
