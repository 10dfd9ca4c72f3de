-- the first cells of labels, and the numbers that labels have by them
use Rattle.std.specs.Prelude.{ℕ, List, AllPairs, Contains, Some, slice_get, ◌≡◌, ◌⊎◌, ◌<ℤ◌, ◌↔◌}
use Rattle.lists.specs.Words.{AllZip}
use Rattle.geo_core.specs.Plane.{Has}
use Rattle.geo_core.specs.declared.plane.Cell.{Cell}
use Rattle.geo_core.specs.declared.plane.Labelled.{Labelled}

-- the cell lies in a lower row than the other one, or further left in the same row
abbrev pub Precedes : Cell → Cell → Type 0
Precedes c d = (c.j <ℤ d.j) ⊎ ((c.j ≡ d.j) × (c.i <ℤ d.i))

-- a piece with this label has the cell
pub record IsLabelCell (pieces : List Labelled) (label : ℕ) (c : Cell) : Type 0 where
  pub piece : Labelled
  pub among : Contains pieces piece
  pub carries : piece.label ≡ label
  pub has : Has piece.rect c

-- no cell belongs to two labels
abbrev pub HaveOwnCells : List Labelled → Type 0
HaveOwnCells pieces = (a b : ℕ) (c : Cell) → IsLabelCell pieces a c → IsLabelCell pieces b c → a ≡ b

-- the cell belongs to the label, and no cell of the label precedes it
pub record IsFirstCell (pieces : List Labelled) (label : ℕ) (c : Cell) : Type 0 where
  pub has : IsLabelCell pieces label c
  pub first : (d : Cell) → IsLabelCell pieces label d → Precedes d c → ⊥

-- the first cells of all labels in their order, each once
pub record AreFirstCells (pieces : List Labelled) (cells : List Cell) : Type 0 where
  pub rising : AllPairs Precedes cells
  pub all : (c : Cell) → Contains cells c ↔ ((label : ℕ) × IsFirstCell pieces label c)

-- in the list, whose places are counted from 0, the first cell of the label stands at this place
pub record IsNumberOf (pieces : List Labelled) (cells : List Cell) (label number : ℕ) : Type 0 where
  pub cell : Cell
  pub first : IsFirstCell pieces label cell
  pub at : slice_get cells number ≡ Some cell

-- the same rectangle, with the number of the piece's label
pub record IsNumberedPiece (pieces : List Labelled) (cells : List Cell) (piece numbered : Labelled) : Type 0 where
  pub rect : numbered.rect ≡ piece.rect
  pub number : IsNumberOf pieces cells piece.label numbered.label

-- the pieces in their order, each with the number that its label has in the list of the first cells
pub record IsNumbered (pieces numbered : List Labelled) : Type 0 where
  pub cells : List Cell
  pub are_first : AreFirstCells pieces cells
  pub each : AllZip (IsNumberedPiece pieces cells) pieces numbered
