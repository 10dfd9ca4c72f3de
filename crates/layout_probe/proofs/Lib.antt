pub mod NetDistances
pub mod MetalLaws
