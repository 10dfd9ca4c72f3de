pub mod laws
pub mod MappedLaws
pub mod NameLaws
