-- chains: how rectangles of a list are connected
use Rattle.std.specs.Prelude.{ℕ, List, Some, ◌≡◌, ◌≤◌, ◌<◌, length, slice_get}
use Rattle.geo_core.specs.Plane.{Has, Touch, HasNumber}
use Rattle.geo_core.specs.declared.plane.Cell.{Cell}
use Rattle.geo_core.specs.declared.plane.Half.{Half}
use Rattle.geo_core.specs.declared.plane.Rect.{Rect}
use Rattle.fault_model.specs.Halves.{IsOn}
use Rattle.paths.specs.Paths.{Path}

-- the half square lies in the rectangle with the number `k`
pub record IsAt (rects : List Rect) (k : ℕ) (h : Half) : Type 0 where
  pub rect : Rect
  pub at : HasNumber rects k rect
  pub on : IsOn (Has rect) h

-- the rectangles with the numbers `i` and `j` touch: they have a common cell, or cells that share an edge
pub record TouchAt (rects : List Rect) (i j : ℕ) : Type 0 where
  pub one : Rect
  pub other : Rect
  pub one_at : HasNumber rects i one
  pub other_at : HasNumber rects j other
  pub touch : Touch one other

-- a path of numbers in the list on which rectangles in a row touch
abbrev pub AreChained : List Rect → ℕ → ℕ → Type 0
AreChained rects = Path (λ k. k < length rects) (TouchAt rects)

-- each rectangle's label is the least number that it is chained to
pub record IsLabelling (rects : List Rect) (labels : List ℕ) : Type 0 where
  pub one_each : length labels ≡ length rects
  pub chained : (k m : ℕ) → slice_get labels k ≡ Some m → AreChained rects m k
  pub least : (k m j : ℕ) → slice_get labels k ≡ Some m → AreChained rects j k → m ≤ j
