pub mod PartLaws
pub mod PathLaws
