-- runs of columns that grow up the rows, and the rectangles that come of them
use Rattle.std.specs.Prelude.{ℕ, ℤ, neg_ℤ, ◌+◌, ◌<◌, ◌≤◌, ◌≡◌, ◌<ℤ◌, ◌≤ℤ◌, Bool, cond, ◌&&◌, List, ◌++◌, length, reverse, All, AllPairs, count_by, slice_index_or}
use Rattle.std.specs.List.{AllWithin, remove}
use Rattle.geo_core.specs.Plane.{IsInLayout}
use Rattle.geo_core.specs.declared.bounds.TheConstants.{FARTHEST}
use Rattle.geo_core.specs.declared.plane.Cell.{Cell}
use Rattle.geo_core.specs.declared.plane.Rect.{Rect}
use Rattle.outlines.specs.inside.FillingDepths.{depth_at, lies_in}
use Rattle.outlines.specs.declared.filling.Filling.{Filling}
use Rattle.outlines.specs.declared.run.Run.{Run}

-- the runs that grow, from left to right
abbrev pub runs_of : Filling → List Run
runs_of filling = filling.left.items ++ reverse filling.right.items

-- how many runs have the column
abbrev pub runs_at : ℤ → List Run → ℕ
runs_at i runs = count_by (λ run. lies_in run.low run.high i) runs

-- whether the run has the cell, and that below the row
abbrev pub has_below : Cell → ℤ → Run → Bool
has_below c row run = lies_in run.low run.high c.i && lies_in run.from row c.j

-- how many of the finished rectangles, and of the runs below the row, have the cell
abbrev pub filled_at : Cell → ℤ → Filling → ℕ
filled_at c row filling = depth_at c filling.done.items + count_by (has_below c row) (runs_of filling)

-- no two runs touch, each began by the row, and what is finished lies below it
pub record IsGrowingTo (row : ℤ) (filling : Filling) : Type 0 where
  pub apart : AllPairs (λ a b. a.high <ℤ b.low) (runs_of filling)
  pub begun : All (λ run. run.from ≤ℤ row) (runs_of filling)
  pub below : (c : Cell) → row ≤ℤ c.j → depth_at c filling.done.items ≡ 0
  pub within : All IsInLayout filling.done.items

-- what is filled below the row stays
pub record KeepsBelow (row : ℤ) (before after : Filling) : Type 0 where
  pub cells : (c : Cell) → filled_at c row after ≡ filled_at c row before
  pub growing : IsGrowingTo row after

-- the same runs and rectangles, but that other runs may stand on the left
pub record MovesRuns (before after : Filling) : Type 0 where
  pub runs : runs_of after ≡ runs_of before
  pub done : after.done.items ≡ before.done.items

-- the runs on the left end before the column, and the others do not
pub record IsParted (column : ℤ) (filling : Filling) : Type 0 where
  pub left : AllWithin (λ run. run.high <ℤ column) (runs_of filling) 0 (length filling.left.items)
  pub right : AllWithin (λ run. column ≤ℤ run.high) (runs_of filling) (length filling.left.items) (length (runs_of filling))

-- no run has one of these columns
pub record IsFree (low high : ℤ) (runs : List Run) : Type 0 where
  pub none : (i : ℤ) → low ≤ℤ i → i <ℤ high → runs_at i runs ≡ 0

-- each of these columns lies in a run
pub record IsTaken (low high : ℤ) (runs : List Run) : Type 0 where
  pub some : (i : ℤ) → low ≤ℤ i → i <ℤ high → 0 < runs_at i runs

-- the runs have these columns from the row on
pub record AddsRun (low high row : ℤ) (before after : Filling) : Type 0 where
  pub columns : (i : ℤ) → runs_at i (runs_of after) ≡ runs_at i (runs_of before) + cond (lies_in low high i) 1 0
  pub kept : KeepsBelow row before after

-- the runs do not have them from the row on
pub record DropsRun (low high row : ℤ) (before after : Filling) : Type 0 where
  pub columns : (i : ℤ) → runs_at i (runs_of before) ≡ runs_at i (runs_of after) + cond (lies_in low high i) 1 0
  pub kept : KeepsBelow row before after

-- a rectangle is added that has what the run has below the row
pub record Finishes (run : Run) (row : ℤ) (before after : List Rect) : Type 0 where
  pub cells : (c : Cell) → depth_at c after ≡ depth_at c before + cond (has_below c row run) 1 0
  pub within : All IsInLayout before → All IsInLayout after

-- the run of this number is finished
pub record TakesRun (number : ℕ) (run : Run) (row : ℤ) (before after : Filling) : Type 0 where
  pub number_within : number < length (runs_of before)
  pub item : (d : Run) → slice_index_or (runs_of before) number d ≡ run
  pub rest : (runs_of after) ≡ remove (runs_of before) number
  pub done : Finishes run row before.done.items after.done.items

-- the runs before this number lie on the left of the columns, the others on the right, and none reaches them
pub record HasRoom (number : ℕ) (low high : ℤ) (runs : List Run) : Type 0 where
  pub bound : number ≤ length runs
  pub left : AllWithin (λ run. run.high <ℤ low) runs 0 number
  pub right : AllWithin (λ run. high <ℤ run.low) runs number (length runs)

-- a run of these columns begins, if there are any; there is still room on its left
pub record PutsRun (number : ℕ) (low high row : ℤ) (before after : Filling) : Type 0 where
  pub columns : (i : ℤ) → runs_at i (runs_of after) ≡ runs_at i (runs_of before) + cond (lies_in low high i) 1 0
  pub kept : KeepsBelow row before after
  pub room : (a b : ℤ) → b <ℤ low → HasRoom number a b (runs_of before) → HasRoom number a b (runs_of after)

-- the run before the column is finished where it ends there
pub record EndsLeft (number : ℕ) (column low row : ℤ) (before after : Filling) : Type 0 where
  pub columns : (i : ℤ) → runs_at i (runs_of before) ≡ runs_at i (runs_of after) + cond (lies_in low column i) 1 0
  pub kept : KeepsBelow row before after
  pub bound : number ≤ length (runs_of before) → number ≤ length (runs_of after)
  pub left : AllWithin (λ run. run.high <ℤ column) (runs_of before) 0 number → AllWithin (λ run. run.high <ℤ low) (runs_of after) 0 number
  pub right : AllWithin (λ run. column ≤ℤ run.high) (runs_of before) number (length (runs_of before))
      → AllWithin (λ run. column <ℤ run.high) (runs_of after) number (length (runs_of after))
  pub least : neg_ℤ FARTHEST ≤ℤ column → neg_ℤ FARTHEST ≤ℤ low
  pub most : low ≤ℤ column

-- the run behind the column is finished where it begins there
pub record EndsRight (number : ℕ) (column high row : ℤ) (before after : Filling) : Type 0 where
  pub columns : (i : ℤ) → runs_at i (runs_of before) ≡ runs_at i (runs_of after) + cond (lies_in column high i) 1 0
  pub kept : KeepsBelow row before after
  pub bound : number ≤ length (runs_of before) → number ≤ length (runs_of after)
  pub left : (x : ℤ) → AllWithin (λ run. run.high <ℤ x) (runs_of before) 0 number → AllWithin (λ run. run.high <ℤ x) (runs_of after) 0 number
  pub right : AllWithin (λ run. column ≤ℤ run.low) (runs_of before) number (length (runs_of before))
      → AllWithin (λ run. high <ℤ run.low) (runs_of after) number (length (runs_of after))
  pub least : column ≤ℤ high
  pub most : column ≤ℤ FARTHEST → high ≤ℤ FARTHEST
