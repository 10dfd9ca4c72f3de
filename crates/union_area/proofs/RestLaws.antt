-- what rectangles have in a window: other lists with the same cells, its halves, and tallies
use Rattle.std.proofs.Common.{ℕ, List, inl, inr, ◌↔◌}
use Rattle.geo_core.specs.Plane.{Has, IsInUnion}
use Rattle.geo_core.specs.declared.plane.Cell.{Cell}
use Rattle.geo_core.specs.declared.plane.Rect.{Rect}
use Rattle.fault_model.specs.FaultNames.{Tally, cells_of}
use Rattle.fault_model.proofs.CellLaws.{Contains-cells_of}
use Rattle.fault_model.proofs.TallyLaws.{Tally-none, Tally-same}
use Rattle.skyline_runs.specs.Runs.{AreApart, HaveSameCells}
use Rattle.union_area.specs.PartRects.{AreRectsOf, GainsPart}
use Rattle.union_area.specs.WindowParts.{AreParts}
use Rattle.union_area.specs.inside.PartCases.{HasCellsIn}
use Rattle.union_area.proofs.laws.GainLaws.{gains_halves}

-- another list with the same cells
pub clipped_same : (rects : List Rect) (window : Rect) (inside same : List Rect) → HasCellsIn rects window inside
    → HaveSameCells inside same → HasCellsIn rects window same
clipped_same rects window inside same clipped alike c = let one = alike c in let other = clipped c in (λ u. other.0 (one.0 u), λ h. one.1 (other.1 h))

-- runs of what the rectangles have in the window
pub rects_of_runs : (rects : List Rect) (window : Rect) (inside runs : List Rect) → HasCellsIn rects window inside
    → HaveSameCells inside runs → AreApart runs → AreRectsOf (IsInUnion rects) window runs
rects_of_runs rects window inside runs clipped same apart = record { cells = clipped_same rects window inside runs clipped same; apart = apart }

-- a list gains the cells of one half of the window, and then those of the other one
module _ (rects : List Rect) (window : Rect) (inside : List Rect) (clipped : HasCellsIn rects window inside)
    (first second : Rect) (parts : AreParts window first second) where
  alike : (part : Rect) → ((c : Cell) → Has part c → Has window c) → (c : Cell) → Has part c → IsInUnion inside c ↔ IsInUnion rects c
  alike part within c at = (λ u. ((clipped c).0 u).0, λ u. (clipped c).1 (u, within c at))

  pub gains_both : (old mid new : List Rect) → GainsPart (IsInUnion inside) first old mid
      → GainsPart (IsInUnion inside) second mid new → GainsPart (IsInUnion rects) window old new
  gains_both old mid new = gains_halves (IsInUnion rects) window (IsInUnion inside) (IsInUnion inside) first second old mid new parts
      (alike first (λ c h. (parts.cells c).1 (inl h))) (alike second (λ c h. (parts.cells c).1 (inr h)))

-- ---- tallies

module _ (rects : List Rect) (window : Rect) where
  -- what is left has the same cells of the window
  pub tally_clipped : (inside : List Rect) → HasCellsIn rects window inside → (n : ℕ)
      → Tally (IsInUnion inside) (cells_of window) n → Tally (IsInUnion rects) (cells_of window) n
  tally_clipped inside clipped n = Tally-same (cells_of window) n
      (λ c listed. (λ u. ((clipped c).0 u).0, λ u. (clipped c).1 (u, (Contains-cells_of window c).0 listed)))

  -- nothing is left
  pub tally_none : ((c : Cell) → Has window c → IsInUnion rects c → ⊥) → Tally (IsInUnion rects) (cells_of window) 0
  tally_none none = Tally-none (cells_of window) (λ c listed. none c ((Contains-cells_of window c).0 listed))
