-- what weighted rectangles add of each pair of labels: each two that have cells of a window in common are taken once, the one as a
-- point, which begins later, and the other one as a span
use Rattle.std.specs.Prelude.{ℕ, ℤ, Bool, List, AllPairs, count_by, filter, sum_by, not, nat_lt, if◌then◌else◌, ◌==◌, ◌&&◌, ◌||◌, ◌+◌, ◌*◌, ◌≡◌, ◌≤ℤ◌}
use Rattle.std.specs.Int.Signed.{le_z, lt_z}
use Rattle.geo_core.specs.declared.plane.Labelled.{Labelled}
use Rattle.geo_core.specs.declared.plane.Rect.{Rect}
use Rattle.fault_model.specs.FaultNames.{cells_of}
use Rattle.skyline_runs.specs.Depths.{has_cell}
use Rattle.net_pairs.specs.inside.SameRests.{HaveOneRest}
use Rattle.net_pairs.specs.inside.Sums.{cells_for, cells_if}
use Rattle.net_pairs.specs.declared.weighted.Lesser.{Lesser}
use Rattle.net_pairs.specs.declared.weighted.Lesser.TheVariants.{Either, Point, Span}
use Rattle.net_pairs.specs.declared.weighted.Weighted.{Weighted}

-- a rectangle with a label, of which each cell counts once
abbrev pub counted_once : Labelled → Weighted
counted_once run = record { rect = run.rect; label = run.label; weight = 1 }

-- in the order of their lowest rows
abbrev pub AreByRow : List Weighted → Type 0
AreByRow rects = AllPairs (λ (a b : Weighted). a.rect.y0 ≤ℤ b.rect.y0) rects

-- how many cells of the window both rectangles have
abbrev pub common_cells : Rect → Rect → Rect → ℕ
common_cells window one other = count_by (λ c. has_cell c one && has_cell c other) (cells_of window)

-- the labels of a point and a span are such that both add something
abbrev pub admits : Lesser → Weighted → Weighted → Bool
admits Either point span = not (span.label == point.label)
admits Point point span = nat_lt point.label span.label
admits Span point span = nat_lt span.label point.label

-- the span begins in an earlier column than the point, or in the same one with the lesser label
abbrev pub is_earlier : Weighted → Weighted → Bool
is_earlier span point = lt_z span.rect.x0 point.rect.x0 || (le_z span.rect.x0 point.rect.x0 && nat_lt span.label point.label)

-- the two labels, the lesser one first, and the cells in common, each as often as both weights tell
abbrev pub common_item : Rect → Weighted → Weighted → ℕ × ℕ × ℕ
common_item window point span = (
  if nat_lt span.label point.label then span.label else point.label,
  if nat_lt span.label point.label then point.label else span.label,
  point.weight * span.weight * common_cells window point.rect span.rect,
)

-- what a point and a span add to the cells of a pair of labels
abbrev pub meeting : Rect → Lesser → Weighted → Weighted → ℕ → ℕ → ℕ
meeting window lesser point span one other =
    if admits lesser point span && is_earlier span point then cells_if one other (common_item window point span) else 0

-- what a point adds with each of the spans, and a span with each of the points
abbrev pub meetings_with : Rect → Lesser → Weighted → List Weighted → ℕ → ℕ → ℕ
meetings_with window lesser point spans one other = sum_by (λ span. meeting window lesser point span one other) spans

abbrev pub meetings_with_span : Rect → Lesser → Weighted → List Weighted → ℕ → ℕ → ℕ
meetings_with_span window lesser span points one other = sum_by (λ point. meeting window lesser point span one other) points

-- what all points add with all spans
abbrev pub meetings_of : Rect → Lesser → List Weighted → List Weighted → ℕ → ℕ → ℕ
meetings_of window lesser points spans one other = sum_by (λ point. meetings_with window lesser point spans one other) points

-- the new list has so many more cells of each pair, in 64 bits
pub record GainsSum (more : ℕ → ℕ → ℕ) (old new : List (ℕ × ℕ × ℕ)) : Type 0 where
  pub sum : (one other : ℕ) → HaveOneRest (cells_for one other new) (cells_for one other old + more one other)

-- the span begins no later than the first column, and reaches over the last one
abbrev pub crosses : ℤ → ℤ → Weighted → Bool
crosses first last span = le_z span.rect.x0 first && lt_z last span.rect.x1

-- it lies in some of the columns from the first to the last one, but does not reach over all of them
abbrev pub meets_partly : ℤ → ℤ → Weighted → Bool
meets_partly first last span = not (crosses first last span) && (le_z span.rect.x0 last && lt_z first span.rect.x1)

-- the point begins before the column
abbrev pub begins_before : ℤ → Weighted → Bool
begins_before column point = lt_z point.rect.x0 column
