pub mod KindTexts
pub mod Questions
