-- areas: of how many cells of a window a property holds
use Rattle.std.specs.Prelude.{ℤ, pos, negsuc, ℕ, suc, zero, ◌+ℤ◌, ◌-ℤ◌, ◌↔◌, List, [], ◌∷◌, map, Option, Some, None, flat_map}
use Rattle.geo_core.specs.Plane.{Has, ComesNear}
use Rattle.geo_core.specs.declared.plane.Cell.{Cell}
use Rattle.geo_core.specs.declared.plane.Rect.{Rect}

-- `P` holds of `n` cells of the list
pub data Tally (P : Cell → Type 0) : List Cell → ℕ → Type 0 where
  none : Tally P [] 0
  hit : {c : Cell} {cs : List Cell} {n : ℕ} → P c → Tally P cs n → Tally P (c ∷ cs) (suc n)
  miss : {c : Cell} {cs : List Cell} {n : ℕ} → (P c → ⊥) → Tally P cs n → Tally P (c ∷ cs) n

-- the `n` whole numbers from `x` on
abbrev pub from : ℤ → ℕ → List ℤ
from x zero = []
from x (suc n) = x ∷ from (x +ℤ pos 1) n

-- the number, or 0 where it is below 0
abbrev pub or_zero : ℤ → ℕ
or_zero (pos n) = n
or_zero (negsuc n) = 0

-- the whole numbers from `low` to before `high`
abbrev pub range : ℤ → ℤ → List ℤ
range low high = from low (or_zero (high -ℤ low))

-- the rectangle's cells in the row `j`, from left to right
abbrev pub row : Rect → ℤ → List Cell
row rect j = map (λ i. record { i = i; j = j }) (range rect.x0 rect.x1)

-- the rectangle's cells, row by row
abbrev pub cells_of : Rect → List Cell
cells_of rect = flat_map (row rect) (range rect.y0 rect.y1)

-- some number covers the cell
abbrev pub IsCovered : (ℕ → Cell → Type 0) → Cell → Type 0
IsCovered covers c = (number : ℕ) × covers number c

-- a rectangle round all covered cells, which every other such rectangle contains
pub record IsBoundsOf (covered : Cell → Type 0) (box : Rect) : Type 0 where
  pub all_in : (c : Cell) → covered c → Has box c
  pub least : (other : Rect) → ((c : Cell) → covered c → Has other c) → (c : Cell) → Has box c → Has other c

-- the window: the bounds of the covered cells, grown by `reach`, so that it has each cell at most so far from a cell of
-- the bounds, and no other
pub record IsWindow (covered : Cell → Type 0) (reach : ℕ) (window : Rect) : Type 0 where
  pub box : Rect
  pub bounds : IsBoundsOf covered box
  pub grown : (c : Cell) → Has window c ↔ ComesNear box (pos reach) c

-- the window, where there is one: there is none exactly where no cell is covered
abbrev pub IsWindowOf : (Cell → Type 0) → ℕ → Option Rect → Type 0
IsWindowOf covered reach None = (c : Cell) → covered c → ⊥
IsWindowOf covered reach (Some window) = IsWindow covered reach window

-- the window's cells, where there is one
abbrev pub cells_of_window : Option Rect → List Cell
cells_of_window None = []
cells_of_window (Some window) = cells_of window
