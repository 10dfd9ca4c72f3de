pub mod StageLaws
pub mod CheckLaws
pub mod AnswerLaws
pub mod JudgeLaws
pub mod StepLaws
