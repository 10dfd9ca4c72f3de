-- ranges of placed points
use Rattle.std.proofs.Common.{◌≡◌, ◌↔◌, Bool, false, ℤ, neg_ℤ, ◌≤ℤ◌, IsTrue}
use Rattle.geo_core.specs.declared.bounds.TheConstants.{FARTHEST}
use Rattle.geo_core.specs.declared.plane.Point.{Point}
use Rattle.geo_core.specs.Plane.{IsInRange}

-- the coordinate is near enough to 0
abbrev pub IsNear : ℤ → Type 0
IsNear a = (neg_ℤ FARTHEST ≤ℤ a) × (a ≤ℤ FARTHEST)

-- a point is in range where both of its coordinates are
pub in_range_both : (p : Point) (b : Bool) → IsNear p.x → IsTrue b ↔ IsNear p.y → IsTrue b ↔ IsInRange p
in_range_both p b near is = (λ t. let k = is.0 t in record { left = near.0; right = near.1; bottom = k.0; top = k.1 }, λ r. is.1 (r.bottom, r.top))

-- and it is not where one of them is not
pub beyond_across : (p : Point) (b : Bool) → b ≡ false → IsTrue b ↔ IsNear p.x → IsTrue b ↔ IsInRange p
beyond_across p b f is = (λ t. absurd (let no : ⊥ = cc in no), λ r. is.1 (r.left, r.right))
