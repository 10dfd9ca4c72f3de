-- tiles along one axis, from left to right or from bottom to top
use Rattle.std.specs.Prelude.{ℤ, pos, ℕ, ◌+ℤ◌, ◌≤ℤ◌, ◌<ℤ◌, ◌*◌}
use Rattle.geo_core.specs.Intervals.{IsIn}

-- the count is the distance from `low` to `high`, divided by the edge and rounded up: so many tiles reach from the one to the
-- other, and one tile fewer does not
pub record AreTilesAlong (low high : ℤ) (edge count : ℕ) : Type 0 where
  pub reach : high ≤ℤ (low +ℤ pos (count * edge))
  pub needed : (low +ℤ pos (count * edge)) <ℤ (high +ℤ pos edge)

-- the place lies in the tile with this number, counted from 0 at `low`
abbrev pub IsInTileAlong : ℤ → ℕ → ℕ → ℤ → Type 0
IsInTileAlong low edge number x = IsIn (low +ℤ pos (number * edge)) (low +ℤ pos (number * edge) +ℤ pos edge) x
