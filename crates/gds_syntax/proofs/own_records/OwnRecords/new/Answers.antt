use Rattle.lists.proofs.Words.{All-nil}
use Rattle.library_grammar.specs.GrammarNames.{entry_of}
use Rattle.gds_records.specs.Profile.{IsInProfile}
use Rattle.gds_syntax.proofs.own_records.OwnRecords.new.Goals as goal

pub invariant_of-result : goal.invariant_of-result
invariant_of-result c = rw c.new.ensures.items (All-nil (λ r. IsInProfile (entry_of r)))
