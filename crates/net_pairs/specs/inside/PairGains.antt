-- what lists of cells by pairs gain: of each pair the cells of a window that have a property
use Rattle.std.specs.Prelude.{ℕ, List, ◌+◌, ◌<◌}
use Rattle.geo_core.specs.declared.plane.Cell.{Cell}
use Rattle.geo_core.specs.declared.plane.Labelled.{Labelled}
use Rattle.geo_core.specs.declared.plane.Rect.{Rect}
use Rattle.fault_model.specs.FaultNames.{Tally, cells_of}
use Rattle.short_area.specs.Zones.{IsInLabel}
use Rattle.net_pairs.specs.inside.SameRests.{HaveOneRest}
use Rattle.net_pairs.specs.inside.Sums.{cells_for}

-- zones of both labels have the cell, and the lesser label comes first
pub record IsInBoth (zones : List Labelled) (one other : ℕ) (c : Cell) : Type 0 where
  pub lesser : one < other
  pub in_one : IsInLabel zones one c
  pub in_other : IsInLabel zones other c

-- the new list has so many more cells of the pair, in 64 bits, as the window has cells with the property
pub record GainsPair (property : Cell → Type 0) (window : Rect) (one other : ℕ) (old new : List (ℕ × ℕ × ℕ)) : Type 0 where
  pub cells : ℕ
  pub tally : Tally property (cells_of window) cells
  pub sum : HaveOneRest (cells_for one other new) (cells_for one other old + cells)

-- so it is with each pair of labels
abbrev pub GainsCells : (ℕ → ℕ → Cell → Type 0) → Rect → List (ℕ × ℕ × ℕ) → List (ℕ × ℕ × ℕ) → Type 0
GainsCells property window old new = (one other : ℕ) → GainsPair (property one other) window one other old new
