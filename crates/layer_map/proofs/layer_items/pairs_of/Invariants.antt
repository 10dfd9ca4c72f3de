use Rattle.std.proofs.Common.{All, map, take}
use Rattle.toml.specs.View.{view}
use Rattle.layer_map.specs.Values.{pair_value}
use Rattle.layer_map.specs.inside.ReadValues.{AreWritten}
use Rattle.map_model.specs.MapNames.{IsPair}
use Rattle.layer_map.proofs.layer_items.pairs_of.Given as goal

abbrev pub invariant-loop-value : goal.invariant-loop-value
invariant-loop-value l = AreWritten pair_value (All IsPair) (map view (take l.value-index l.values)) l.pairs.items
