pub mod DegreeLaws
pub mod FillSteps
pub mod IndexLaws
pub mod SpreadSteps
pub mod ClassLaws
