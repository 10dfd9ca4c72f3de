-- what comes next of a window with some zones
use Rattle.std.specs.Prelude.{ℤ, List, Contains, ◌≡◌, ℕ, All, ◌<◌, ◌⊎◌}
use Rattle.geo_core.specs.Plane.{low_along, high_along}
use Rattle.geo_core.specs.declared.axis.Axis.{Axis}
use Rattle.geo_core.specs.declared.plane.Labelled.{Labelled}
use Rattle.geo_core.specs.declared.plane.Rect.{Rect}
use Rattle.union_area.specs.WindowParts.{IsBetween, IsHalfWay}
use Rattle.net_pairs.specs.inside.RunsOfLabels.{AreRunsOf}
use Rattle.net_pairs.specs.declared.part_case.PartCase.{PartCase}
use Rattle.net_pairs.specs.declared.part_case.PartCase.TheVariants.{Nothing, Few, Two, Meet, Halve}

-- all zones have one label
abbrev pub HaveOneLabel : List Labelled → Type 0
HaveOneLabel zones = (a b : Labelled) → Contains zones a → Contains zones b → a.label ≡ b.label

-- the zones have these two labels, of which the first is the lesser, and no third
pub record HaveTwoLabels (zones : List Labelled) (one other : ℕ) : Type 0 where
  pub lesser : one < other
  pub alone : All (λ (zone : Labelled). (zone.label ≡ one) ⊎ (zone.label ≡ other)) zones

-- the place lies half way between the ends of the window along the axis. Any place within serves for the cells: this is said so
-- that halving comes to its end soon
pub record IsMiddleCut (window : Rect) (axis : Axis) (place : ℤ) : Type 0 where
  pub within : IsBetween (low_along axis window) (high_along axis window) place
  pub half_way : IsHalfWay (low_along axis window) (high_along axis window) place

-- there is one label, or there are few zones, or there are these two labels, or these are the runs, or the place is one half way
abbrev pub IsStepOf : List Labelled → Rect → PartCase → Type 0
IsStepOf zones window Nothing = HaveOneLabel zones
IsStepOf zones window Few = Unit {0}
IsStepOf zones window (Two one other) = HaveTwoLabels zones one other
IsStepOf zones window (Meet runs) = AreRunsOf zones runs.items
IsStepOf zones window (Halve axis place hopeless) = IsMiddleCut window axis place
