-- distances along one axis
use Rattle.std.specs.Prelude.{ℤ, ℕ, pos, ◌<◌}
use Rattle.geo_core.specs.Plane.{ComesWithin}

-- the distance of a place to an interval: a number of it is at most so far away, and none is nearer
pub record IsGap (low high place : ℤ) (gap : ℕ) : Type 0 where
  pub reached : ComesWithin low high (pos gap) place
  pub least : (less : ℕ) → less < gap → ComesWithin low high (pos less) place → ⊥
