use Rattle.layer_map.proofs.PairLaws.{Adds}
use Rattle.layer_map.proofs.layer_items.add_different.Given as goal

abbrev pub invariant-loop-pair : goal.invariant-loop-pair
invariant-loop-pair l = Adds l.initial.pairs.items l.more l.pairs.items l.pair-index
