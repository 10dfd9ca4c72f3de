use Rattle.std.proofs.Common.{ℕ, ◌<◌, map, slice_get}
use Rattle.std.specs.Prelude.{IsSomeAnd}
use Rattle.toml.specs.View.{view}
use Rattle.layer_map.specs.Values.{pair_value}
use Rattle.layer_map.proofs.FirstLaws.{HasIt}
use Rattle.layer_map.proofs.firsts.pair_among.Given as goal

abbrev pub invariant-loop-number : goal.invariant-loop-number
invariant-loop-number l = (k : ℕ) → k < l.number → IsSomeAnd (slice_get (map view l.items) k) (HasIt l.items (pair_value (l.layer, l.datatype))) → ⊥
