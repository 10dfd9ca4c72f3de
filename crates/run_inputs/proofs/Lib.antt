pub mod laws
pub mod CoverReading
pub mod LayerLaws
pub mod SourceLaws
pub mod NamingLaws
pub mod AskedLaws
