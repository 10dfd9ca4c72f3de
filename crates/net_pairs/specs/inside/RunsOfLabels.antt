-- runs of each label: rectangles with labels, of which those of one label have no cell in common
use Rattle.std.specs.Prelude.{ℕ, List, All, AllPairs, Some, map, slice_get, take, ◌++◌, ◌<◌, ◌≤◌, ◌≡◌, ◌↔◌, ◌⊎◌}
use Rattle.geo_core.specs.Plane.{Overlap}
use Rattle.geo_core.specs.declared.plane.Cell.{Cell}
use Rattle.geo_core.specs.declared.plane.Labelled.{Labelled}
use Rattle.geo_core.specs.declared.plane.Rect.{Rect}
use Rattle.skyline_runs.specs.Runs.{AreApart, HaveSameCells}
use Rattle.short_area.specs.Zones.{IsInLabel}

-- the one has the lesser label, or both have the same label and no cell in common
abbrev pub IsApart : Labelled → Labelled → Type 0
IsApart a b = (a.label < b.label) ⊎ ((a.label ≡ b.label) × (Overlap a.rect b.rect → ⊥))

-- the runs of each label have the cells of its zones together, and they stand in the order of their labels
pub record AreRunsOf (zones runs : List Labelled) : Type 0 where
  pub cells : (c : Cell) (label : ℕ) → IsInLabel runs label c ↔ IsInLabel zones label c
  pub apart : AllPairs IsApart runs

-- the rectangle with this label
abbrev pub with_label : ℕ → Rect → Labelled
with_label label rect = record { rect = rect; label = label }

-- a list gains rectangles with this label, without common cells, that have the cells of others together
pub record GainsRuns (old new : List Labelled) (rects : List Rect) (label : ℕ) : Type 0 where
  pub gained : List Rect
  pub new_is : new ≡ old ++ map (with_label label) gained
  pub same : HaveSameCells rects gained
  pub apart : AreApart gained

-- of the first so many zones, in the order of their labels, those with lesser labels than this one became runs, and those
-- with this label are listed
pub record AreRunsTo (sorted : List Labelled) (i label : ℕ) (runs : List Labelled) (listed : List Rect) : Type 0 where
  pub front : List Labelled
  pub back : List Labelled
  pub so_far : take i sorted ≡ front ++ back
  pub lesser : All (λ (zone : Labelled). zone.label < label) front
  pub alike : All (λ (zone : Labelled). zone.label ≡ label) back
  pub runs_are : AreRunsOf front runs
  pub listed_is : listed ≡ map (λ (zone : Labelled). zone.rect) back
  pub rest : (k : ℕ) (zone : Labelled) → i ≤ k → slice_get sorted k ≡ Some zone → label ≤ zone.label
