-- A library that was read is well formed, so that it can be written.
use Rattle.std.proofs.Common.{ℕ, List, IfOk, Result, Ok, Err}
use Rattle.library_grammar.specs.GrammarNames.{BytesComeTo}
use Rattle.library_grammar.specs.declared.fault.SyntaxFault.{SyntaxFault}
use Rattle.library_grammar.specs.declared.fault.SyntaxFault.TheVariants.{Memory}
use Rattle.first_refusal.specs.Answers.{Answers, gives}
use Rattle.library_model.specs.declared.library.Library.{Library}
use Rattle.gds_write.specs.WellFormed.{IsWellFormed}
use Rattle.gds_write.proofs.ReadWellFormed.{come_to_well_formed}

-- what a reader answers is a well-formed library, where it is one
pub read_is_well_formed : (bytes : List ℕ) (result : Result Library SyntaxFault) → Answers Memory (BytesComeTo bytes) result → IfOk result IsWellFormed
read_is_well_formed bytes (Ok library) (gives comes) = come_to_well_formed bytes library comes
read_is_well_formed bytes (Err fault) answer = tt
