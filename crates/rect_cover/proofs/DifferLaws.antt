-- points that are all equal
use Rattle.std.proofs.Common.{ℕ, ◌<◌, ◌≡◌, pos, List, length, get_or, sym, ◌∙◌, Contains}
use Rattle.lists.proofs.Words.{get_or_default}
use Rattle.geo_core.specs.declared.plane.Point.{Point}
use Rattle.rect_cover.specs.ShapeChecks.{HasDifferentPoints}

abbrev pub no_point : Point
no_point = record { x = pos 0; y = pos 0 }

-- the points so far equal the first
pub record AreFirst (points : List Point) (n : ℕ) : Type 0 where
  pub same : (k : ℕ) → k < n → get_or points k no_point ≡ get_or points 0 no_point

first_again : (points : List Point) (p : Point) → AreFirst points (length points) → Contains points p → get_or points 0 no_point ≡ p
first_again points p first (k, h, e) = sym (get_or_default points k p no_point h ∙ first.same k h) ∙ e

-- no point differs from the first
pub none_differ : (points : List Point) → AreFirst points (length points) → HasDifferentPoints points → ⊥
none_differ points first (one, other, has_one, has_other, apart) = apart (sym (first_again points one first has_one) ∙ first_again points other first has_other)
