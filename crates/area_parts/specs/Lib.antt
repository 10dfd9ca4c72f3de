-- what contracts of other crates cite
pub use Rattle.questions.specs.Questions
pub mod FaultKinds
pub mod LayerParts
pub mod AreaParts
pub mod AskedCounts
pub mod Rows
-- what only the proofs and private contracts of this crate cite
pub mod inside
