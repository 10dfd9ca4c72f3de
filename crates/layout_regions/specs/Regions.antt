-- the cells that a row of a report counts, as rectangles
use Rattle.std.specs.Prelude.{ℕ, List, Contains, Option, Vec, length, sum_by, ◌↔◌}
use Rattle.lists.specs.Words.{Global, enumerate_from}
use Rattle.first_refusal.specs.Checks.{Checks}
use Rattle.first_refusal.specs.Outcomes.{Outcome}
use Rattle.geo_core.specs.Plane.{IsCoveredIn, IsInUnion}
use Rattle.geo_core.specs.declared.plane.Cell.{Cell}
use Rattle.geo_core.specs.declared.plane.Rect.{Rect}
use Rattle.fault_model.specs.FaultNames.{cells_of, cells_of_window}
use Rattle.map_model.specs.MapNames.{LayerMap, side_by}
use Rattle.net_extract.specs.Extraction.{IsOnItsMetal, off_metal}
use Rattle.net_extract.specs.declared.fault.NetFault.{NetFault}
use Rattle.questions.specs.declared.kind.Kind.{Kind}
use Rattle.skyline_runs.specs.Runs.{AreApart}
use Rattle.area_parts.specs.FaultKinds.{IsFault}
use Rattle.area_parts.specs.Rows.{IsWindowFor}
pub use Rattle.area_parts.specs.FaultKinds.{IsNumberFor}

-- the rectangles have exactly the cells of the window at which a defect of this size makes this fault on the metal or at the cut with
-- this number, and no cell in common; with no window there is no rectangle
pub record IsRegion (layer_map : LayerMap) (covers : ℕ → Cell → Type 0) (kind : Kind) (number size : ℕ) (rects : List Rect) : Type 0 where
  pub window : Option Rect
  pub is_window : IsWindowFor layer_map covers window
  pub cells : (c : Cell) → IsInUnion rects c
      ↔ (Contains (cells_of_window window) c × IsFault layer_map covers kind number (side_by layer_map.measure size) c)
  pub apart : AreApart rects

-- how many cells the rectangles have, where they have none in common
abbrev pub cell_count : List Rect → ℕ
cell_count = sum_by (λ rect. length (cells_of rect))

-- what layers come to: the region where all terminals are on their metals, and else the fault of the first that is not
abbrev pub ComeToRegion : LayerMap → List (List Rect) → Kind → ℕ → ℕ → Outcome (Vec Rect Global) NetFault → Type 0
ComeToRegion layer_map lists kind number size =
    Checks (IsOnItsMetal lists) (enumerate_from 0 layer_map.terminals) off_metal
    (λ rects. IsRegion layer_map (IsCoveredIn lists) kind number size rects.items)
