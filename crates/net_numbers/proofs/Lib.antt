pub mod ListLaws
pub mod OrderLaws
pub mod CornerLaws
pub mod NumberLaws
