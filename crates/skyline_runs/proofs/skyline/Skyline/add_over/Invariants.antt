use Rattle.std.proofs.Common.{ℤ, List, Contains, ◌≤◌, ◌≤ℤ◌, ◌+ℤ◌, unsigned_abs}
use Rattle.geo_core.specs.declared.bounds.TheConstants.{FARTHEST_GROWN}
use Rattle.skyline_runs.specs.inside.Skylines.{HasSides, IsAddedTo}
use Rattle.skyline_runs.proofs.Looking.{from_on}
use Rattle.skyline_runs.proofs.skyline.Skyline.add_over.Given as goal

abbrev pub invariant-loop-column : goal.invariant-loop-column
invariant-loop-column l = record {
  added : IsAddedTo l.fn.self l.self l.rect l.column l.rect.x1 l.end;
  few : (xs : List ℤ) → HasSides xs l.fn.self → Contains xs l.rect.x0 → Contains xs l.rect.x1 → (x : ℤ) → x ≤ℤ l.column → l.met ≤ from_on x xs;
}

abbrev pub decreases-loop-column : goal.decreases-loop-column
decreases-loop-column l = unsigned_abs (l.column +ℤ FARTHEST_GROWN)
