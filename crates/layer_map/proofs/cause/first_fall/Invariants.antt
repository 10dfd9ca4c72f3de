use Rattle.std.proofs.Common.{ℕ, ◌<◌, map}
use Rattle.toml.specs.View.{view}
use Rattle.layer_map.specs.MapCauses.{FallsAt}
use Rattle.layer_map.proofs.cause.first_fall.Given as goal

abbrev pub invariant-loop-number : goal.invariant-loop-number
invariant-loop-number l = (k : ℕ) → k < l.number → FallsAt (map view l.values) k → ⊥
