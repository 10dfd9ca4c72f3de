use Rattle.remnants.proofs.LeaderLaws.{HasLeadsTo}
use Rattle.remnants.proofs.joining.with_leads.Given as goal

abbrev pub invariant-loop-number : goal.invariant-loop-number
invariant-loop-number l = HasLeadsTo l.fn.links.items l.fixed l.number l.pairs.items
