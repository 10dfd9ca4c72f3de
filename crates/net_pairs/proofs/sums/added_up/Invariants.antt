use Rattle.net_pairs.proofs.SumLaws.{AreSumsTo}
use Rattle.net_pairs.proofs.sums.added_up.Given as goal

abbrev pub invariant-loop-item : goal.invariant-loop-item
invariant-loop-item l = AreSumsTo l.sorted l.item-index l.sums.items l.last
