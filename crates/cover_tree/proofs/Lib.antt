pub mod Totals
pub mod Powers
pub mod PartLaws
pub mod CutLaws
pub mod WidthLaws
pub mod ChangeLaws
pub mod RowLaws
