-- what a sweep up the rows has come to in its row
use Rattle.std.specs.Prelude.{ℕ, ℤ, pos, ◌+◌, ◌<◌, ◌≡◌, ◌≢◌, ◌↔◌}
use Rattle.geo_core.specs.declared.plane.Cell.{Cell}
use Rattle.outlines.specs.inside.Pieces.{AddsBetween, AreRising, IsPlace, winding_at}
use Rattle.outlines.specs.inside.FillingRuns.{IsGrowingTo, filled_at, runs_at, runs_of}
use Rattle.outlines.specs.declared.front.Front.{Front}

-- the runs that grow have the columns round whose cells the outline winds in the row
pub record IsDrawn (row : ℤ) (front : Front) : Type 0 where
  pub rising : AreRising front.pieces.items
  pub inside : (i : ℤ) → (0 < runs_at i (runs_of front.filling)) ↔ (winding_at i front.pieces.items ≢ pos 0)
  pub growing : IsGrowingTo row front.filling

-- from the row on it winds so much more round the cells between these columns
pub record TurnsBetween (low high by row : ℤ) (before after : Front) : Type 0 where
  pub more : AddsBetween low high by before.pieces.items after.pieces.items
  pub drawn : IsDrawn row after
  pub cells : (c : Cell) → filled_at c row after.filling ≡ filled_at c row before.filling

-- so much more round those of one piece
pub record ShiftsPiece (number : ℕ) (by row : ℤ) (before after : Front) : Type 0 where
  pub more : (low high : ℤ) → IsPlace before.pieces.items number low → IsPlace before.pieces.items (number + 1) high
      → AddsBetween low high by before.pieces.items after.pieces.items
  pub places : (k : ℕ) (x : ℤ) → IsPlace before.pieces.items k x → IsPlace after.pieces.items k x
  pub drawn : IsDrawn row after
  pub cells : (c : Cell) → filled_at c row after.filling ≡ filled_at c row before.filling
