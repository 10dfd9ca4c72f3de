-- where one label, the leader, has most of the zones: the others become runs, and its own stay as they are
use Rattle.std.specs.Prelude.{ℕ, List, ◌≡◌, ◌≢◌, ◌⊎◌, ◌↔◌}
use Rattle.geo_core.specs.Plane.{Has, IsInUnion}
use Rattle.geo_core.specs.declared.plane.Cell.{Cell}
use Rattle.geo_core.specs.declared.plane.Labelled.{Labelled}
use Rattle.geo_core.specs.declared.plane.Rect.{Rect}
use Rattle.skyline_runs.specs.Runs.{IsInTwo}
use Rattle.short_area.specs.Zones.{IsInLabel}

-- the zones of the other labels
abbrev pub AreOthers : List Labelled → ℕ → List Labelled → Type 0
AreOthers zones leader others = (c : Cell) (label : ℕ) → IsInLabel others label c ↔ (IsInLabel zones label c × (leader ≢ label))

-- what the zones with this label have within the bounds
abbrev pub ArePartsIn : List Labelled → ℕ → Rect → List Rect → Type 0
ArePartsIn zones label bounds parts = (c : Cell) → IsInUnion parts c ↔ (IsInLabel zones label c × Has bounds c)

-- the list gains what the zone has within the bounds, where it has this label
abbrev pub GainsPart : List Rect → List Rect → Labelled → ℕ → Rect → Type 0
GainsPart old new zone label bounds =
    (c : Cell) → IsInUnion new c ↔ (IsInUnion old c ⊎ ((zone.label ≡ label) × Has zone.rect c × Has bounds c))

-- a run has the cell, and beside it a rectangle of the leader or another run
pub record IsBesideRun (own runs : List Rect) (c : Cell) : Type 0 where
  pub in_run : IsInUnion runs c
  pub beside : IsInUnion own c ⊎ IsInTwo runs c
