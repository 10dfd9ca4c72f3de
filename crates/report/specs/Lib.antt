pub mod Gains
pub mod Report
-- the rows, and which questions they answer
pub use Rattle.questions.specs.Questions
