-- what labels cover in the rows of a window, and how it changes from row to row
use Rattle.std.specs.Prelude.{ℕ, List, All, count_by, sum_by, if◌then◌else◌, ◌==◌, ◌&&◌, ◌+◌, ◌+ℤ◌, ◌-ℤ◌, ◌≡◌, pos}
use Rattle.geo_core.specs.Plane.{Has}
use Rattle.geo_core.specs.declared.plane.Cell.{Cell}
use Rattle.geo_core.specs.declared.plane.Labelled.{Labelled}
use Rattle.geo_core.specs.declared.plane.Rect.{Rect}
use Rattle.skyline_runs.specs.Depths.{has_cell}
use Rattle.net_pairs.specs.inside.SameRests.{HaveOneRest}
use Rattle.net_pairs.specs.declared.weighted.Weighted.{Weighted}

-- how many of the rectangles with this label have the cell, where it lies in the window
abbrev pub count_in : Rect → List Labelled → ℕ → Cell → ℕ
count_in window rects label c = count_by (λ (one : Labelled). one.label == label && (has_cell c one.rect && has_cell c window)) rects

-- two lists cover the same of each label in the window, each cell as often
abbrev pub CoverAlike : Rect → List Labelled → List Labelled → Type 0
CoverAlike window rects others = (label : ℕ) (c : Cell) → HaveOneRest (count_in window others label c) (count_in window rects label c)

-- the cell in the row below
abbrev pub below : Cell → Cell
below c = record { i = c.i; j = c.j -ℤ pos 1 }

-- what the changes of this label that have the cell weigh together
abbrev pub weight_at : List Weighted → ℕ → Cell → ℕ
weight_at changes label c = sum_by (λ (change : Weighted). if change.label == label && has_cell c change.rect then change.weight else 0) changes

-- a change lies in one row of the window
pub record IsChangeIn (window : Rect) (change : Weighted) : Type 0 where
  pub level : change.rect.y1 ≡ change.rect.y0 +ℤ pos 1
  pub within : (c : Cell) → Has change.rect c → Has window c

-- at each cell of the window a label is covered as often as in the row below, and as changes tell, in 64 bits. Below the lowest row
-- of the window nothing counts as covered.
pub record AreChangesOf (window : Rect) (rects : List Labelled) (changes : List Weighted) : Type 0 where
  pub change : (label : ℕ) (c : Cell) → Has window c
      → HaveOneRest (count_in window rects label c) (count_in window rects label (below c) + weight_at changes label c)
  pub within : All (IsChangeIn window) changes
