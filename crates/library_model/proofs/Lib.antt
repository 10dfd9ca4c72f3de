pub mod laws
pub mod NameLaws
