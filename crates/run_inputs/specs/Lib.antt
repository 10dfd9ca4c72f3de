-- what files contain, and which of them a request names
pub mod Contents
-- what a layout covers, and what it comes to
pub mod Coverage
pub mod Layout
-- what words and contents come to
pub mod Refusals
pub mod Inquiries
pub mod Verdict
-- what readers answer
pub mod Failures
pub mod StageAnswers
pub mod LayoutReaders
