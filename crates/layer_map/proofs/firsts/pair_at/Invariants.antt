use Rattle.toml.specs.View.{view}
use Rattle.layer_map.specs.Values.{pair_value}
use Rattle.layer_map.proofs.SearchLaws.{NoneBefore}
use Rattle.layer_map.proofs.firsts.pair_at.Given as goal

abbrev pub invariant-loop-number : goal.invariant-loop-number
invariant-loop-number l = NoneBefore view l.values (pair_value (l.layer, l.datatype)) l.number
