use Rattle.std.proofs.Common.{ℤ, List, Contains, length, ◌≤◌, ◌≤ℤ◌, ◌+ℤ◌, unsigned_abs}
use Rattle.geo_core.specs.declared.bounds.TheConstants.{FARTHEST_GROWN}
use Rattle.skyline_runs.specs.inside.Skylines.{HasSides, HaveSides, IsCommonFrom}
use Rattle.skyline_runs.proofs.Looking.{from_on}
use Rattle.skyline_runs.proofs.skyline.Skyline.common.Given as goal

abbrev pub invariant-loop-column : goal.invariant-loop-column
invariant-loop-column l = record {
  common : IsCommonFrom l.self l.rect l.column l.parts.items;
  sides : (xs : List ℤ) → HasSides xs l.self → Contains xs l.rect.x0 → Contains xs l.rect.x1 → HaveSides xs l.parts.items;
  few : (xs : List ℤ) → HasSides xs l.self → (x : ℤ) → x ≤ℤ l.column → length l.parts.items ≤ from_on x xs;
  looks : (xs : List ℤ) → HasSides xs l.self → (x : ℤ) → x ≤ℤ l.column → l.met ≤ from_on x xs;
}

abbrev pub decreases-loop-column : goal.decreases-loop-column
decreases-loop-column l = unsigned_abs (l.column +ℤ FARTHEST_GROWN)
