pub mod FirstCells
pub mod inside
