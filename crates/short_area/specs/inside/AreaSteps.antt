-- what comes next of a window: its count, or the place at which to halve it
use Rattle.std.specs.Prelude.{ℤ, List, Option, Some, All, IsSomeAnd}
use Rattle.geo_core.specs.Plane.{low_along, high_along}
use Rattle.geo_core.specs.declared.axis.Axis.{Axis}
use Rattle.geo_core.specs.declared.plane.Labelled.{Labelled}
use Rattle.geo_core.specs.declared.plane.Rect.{Rect}
use Rattle.union_area.specs.WindowParts.{IsAsCentral, IsBetween, IsHalfWay}
use Rattle.short_area.specs.Zones.{IsCountOf}
use Rattle.short_area.specs.declared.steps.Step.{Step}
use Rattle.short_area.specs.declared.steps.Step.TheVariants.{Count, Halve}

-- where the edge lies between two ends, a place was found, and the edge is no nearer to their middle
abbrev pub IsNoNearer : ℤ → ℤ → Option ℤ → ℤ → Type 0
IsNoNearer low high found edge = IsBetween low high edge → IsSomeAnd found (λ place. IsAsCentral low high place edge)

-- so it is with both edges that each zone has along the axis: the place that was found parts them best
abbrev pub AreNoNearer : List Labelled → Axis → ℤ → ℤ → Option ℤ → Type 0
AreNoNearer zones axis low high found = All (λ (zone : Labelled).
    IsNoNearer low high found (low_along axis zone.rect) × IsNoNearer low high found (high_along axis zone.rect)) zones

-- the place lies half way between the ends of the window along the axis
pub record IsMiddleCut (window : Rect) (axis : Axis) (place : ℤ) : Type 0 where
  pub within : IsBetween (low_along axis window) (high_along axis window) place
  pub half_way : IsHalfWay (low_along axis window) (high_along axis window) place

-- the place lies within the window along the axis, and no edge of a zone lies nearer to its middle. Any place within serves for the
-- count: this is said so that halving does not go from edge to edge
pub record IsCentralCut (zones : List Labelled) (window : Rect) (axis : Axis) (place : ℤ) : Type 0 where
  pub within : IsBetween (low_along axis window) (high_along axis window) place
  pub central : AreNoNearer zones axis (low_along axis window) (high_along axis window) (Some place)

-- the count is right, and the place is a central one
abbrev pub IsStepOf : List Labelled → Rect → Step → Type 0
IsStepOf zones window (Count n) = IsCountOf zones window n
IsStepOf zones window (Halve axis place hopeless) = IsCentralCut zones window axis place
