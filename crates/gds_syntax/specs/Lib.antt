pub use Rattle.library_grammar.specs.FirstFault
pub use Rattle.library_grammar.specs.SyntaxFaults
pub mod ElementKinds
pub mod StreamLimits
-- what only this crate's proofs and private contracts cite
pub mod inside
