pub mod IntervalLaws
pub mod RectLaws
pub mod TurnLaws
