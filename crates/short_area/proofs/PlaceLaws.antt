-- places that are as central as each edge of some zones
use Rattle.std.proofs.Common.{ℕ, ◌+◌, ◌<◌, ◌≡◌, List, [], ◌∷◌, length, take, take_all, get_or, Option, Some, arith, subst, ℤ, ◌≤◌}
use Rattle.lists.proofs.Words.{ints, All-cons, All-nil, All-weaker}
use Rattle.lists.proofs.Reading.{All-read}
use Rattle.geo_core.specs.Plane.{low_along, high_along}
use Rattle.geo_core.specs.declared.axis.Axis.{Axis}
use Rattle.geo_core.specs.declared.plane.Labelled.{Labelled}
use Rattle.geo_core.specs.declared.plane.Rect.{Rect}
use Rattle.union_area.specs.WindowParts.{IsAsCentral, IsHalfWay}
use Rattle.short_area.specs.inside.AreaSteps.{AreNoNearer, IsCentralCut, IsMiddleCut, IsNoNearer}

-- nothing is nearer to the middle than what lies half way
pub half_way_central : (low high place other : ℤ) → IsHalfWay low high place → IsAsCentral low high place other
half_way_central low high place other half = let a = half.0 in let b = half.1 in omega (arith, ints)

module _ (axis : Axis) (low high : ℤ) where
  abbrev BothNoNearer : Option ℤ → Labelled → Type 0
  BothNoNearer found zone = IsNoNearer low high found (low_along axis zone.rect) × IsNoNearer low high found (high_along axis zone.rect)

  -- so it parts all zones best
  pub half_way_parts : (zones : List Labelled) (place : ℤ) → IsHalfWay low high place → AreNoNearer zones axis low high (Some place)
  half_way_parts [] place half = All-nil (BothNoNearer (Some place))
  half_way_parts (zone ∷ zones) place half =
      let each : (other : ℤ) → IsNoNearer low high (Some place) other = λ other between. half_way_central low high place other half in
      All-cons (BothNoNearer (Some place)) zone zones (each (low_along axis zone.rect), each (high_along axis zone.rect)) (half_way_parts zones place half)

  -- one zone more, after which no edge is nearer that was not so before
  pub edges_more : (zones : List Labelled) (k : ℕ) (zone : Labelled) (found better : Option ℤ) → k < length zones → zone ≡ get_or zones k zone
      → AreNoNearer (take k zones) axis low high found → ((edge : ℤ) → IsNoNearer low high found edge → IsNoNearer low high better edge)
      → IsNoNearer low high better (low_along axis zone.rect) → IsNoNearer low high better (high_along axis zone.rect)
      → AreNoNearer (take (k + 1) zones) axis low high better
  edges_more zones k zone found better small is before kept here also =
      All-read (BothNoNearer better) _ _ _ small is
      (All-weaker (BothNoNearer found) (BothNoNearer better)
      (λ z both. (kept (low_along axis z.rect) both.0, kept (high_along axis z.rect) both.1)) (take k zones) before) (here, also)

  pub edges_all : (zones : List Labelled) (k : ℕ) (found : Option ℤ) → length zones ≤ k → AreNoNearer (take k zones) axis low high found
      → AreNoNearer zones axis low high found
  edges_all zones k found past all = subst (λ (zs : List Labelled). AreNoNearer zs axis low high found) (take_all k zones past) all

-- a cut half way is a central one
pub middle_cut : (zones : List Labelled) (window : Rect) (axis : Axis) (place : ℤ) → IsMiddleCut window axis place
    → IsCentralCut zones window axis place
middle_cut zones window axis place cut = record {
  within = cut.within;
  central = half_way_parts axis (low_along axis window) (high_along axis window) zones place cut.half_way;
}
