-- what crates above cite
pub mod CircuitLaws
pub mod GridLaws
pub mod JoinLaws
pub mod RectangleLaws
pub mod ShiftLaws
