use Rattle.std.proofs.Common.{map, take}
use Rattle.toml.specs.View.{view}
use Rattle.layer_map.specs.inside.ReadValues.{AreWholesIn}
use Rattle.layer_map.proofs.values.wholes_in.Given as goal

abbrev pub invariant-loop-value : goal.invariant-loop-value
invariant-loop-value l = AreWholesIn l.low l.high (map view (take l.value-index l.values)) l.numbers.items
