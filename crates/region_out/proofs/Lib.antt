pub mod FormLaws
pub mod RouteLaws
