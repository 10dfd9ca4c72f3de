use Rattle.std.proofs.Common.{ℕ, ◌<◌, map, slice_get}
use Rattle.std.specs.Prelude.{IsSomeAnd}
use Rattle.toml.specs.View.{view}
use Rattle.layer_map.specs.MapCauses.{IsOutside}
use Rattle.layer_map.proofs.cause.first_outside.Given as goal

abbrev pub invariant-loop-number : goal.invariant-loop-number
invariant-loop-number l = (k : ℕ) → k < l.number → IsSomeAnd (slice_get (map view l.values) k) (IsOutside l.low l.high) → ⊥
