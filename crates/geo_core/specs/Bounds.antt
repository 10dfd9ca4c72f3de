-- the numbers that a layout and a size of defects may have
use Rattle.std.specs.Prelude.{ℕ, pos, neg_ℤ, ◌≤◌, ◌≤ℤ◌}
use Rattle.geo_core.specs.declared.plane.Point.{Point}

-- the number is a radius of defects: from 1 to 1,000,000
pub record IsRadius (r : ℕ) : Type 0 where
  pub least : 1 ≤ r
  pub most : pos r ≤ℤ pos 1000000

-- the number is a side of defects: from 1 to 2,000,000
pub record IsSide (s : ℕ) : Type 0 where
  pub least : 1 ≤ s
  pub most : s ≤ 2000000

-- both coordinates are at most 1,000,000,000 from 0
pub record IsInRange (p : Point) : Type 0 where
  pub left : neg_ℤ (pos 1000000000) ≤ℤ p.x
  pub right : p.x ≤ℤ pos 1000000000
  pub bottom : neg_ℤ (pos 1000000000) ≤ℤ p.y
  pub top : p.y ≤ℤ pos 1000000000
