use Rattle.lists.proofs.Words.{All-push}
use Rattle.library_grammar.specs.GrammarNames.{entry_of}
use Rattle.gds_records.specs.Profile.{IsInProfile}
use Rattle.gds_syntax.proofs.own_records.OwnRecords.push.Goals as goal

pub invariant_of-self : goal.invariant_of-self
invariant_of-self c = rw c.in_err-push.ensures.items c.self.invariant

pub invariant_of-self-2 : goal.invariant_of-self-2
invariant_of-self-2 c =
    rw c.in_ok-push.ensures.items (All-push (λ r. IsInProfile (entry_of r)) c.self.inside.records.items c.args.found c.self.invariant c.requires)
