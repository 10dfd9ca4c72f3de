pub mod CutLaws
pub mod RestLaws
pub mod RunLaws
pub mod SpanLaws
