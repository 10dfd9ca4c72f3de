-- the windings round the cells of a row, by pieces: each from its column on to that of the next
use Rattle.std.specs.Prelude.{ℕ, ℤ, pos, ◌+◌, ◌+ℤ◌, ◌≡◌, ◌<◌, ◌<ℤ◌, ◌≤ℤ◌, cond, int_le, List, length, All, AllPairs, fold, slice_index_or}
use Rattle.outlines.specs.inside.FillingDepths.{lies_in}
use Rattle.outlines.specs.declared.piece.Piece.{Piece}

-- the winding at a column behind the piece, by that before it
abbrev pub winding_behind : ℤ → ℤ → Piece → ℤ
winding_behind i before piece = cond (int_le piece.column i) piece.winding before

-- the winding at a column: that of the last piece that begins there or on its left, or none
abbrev pub winding_at : ℤ → List Piece → ℤ
winding_at i pieces = fold (winding_behind i) (pos 0) pieces

-- from left to right
abbrev pub AreRising : List Piece → Type 0
AreRising pieces = AllPairs (λ a b. a.column <ℤ b.column) pieces

-- the piece of this number begins at the column
pub record IsPlace (pieces : List Piece) (number : ℕ) (column : ℤ) : Type 0 where
  pub within : number < length pieces
  pub is : (d : Piece) → (slice_index_or pieces number d).column ≡ column

-- the winding at each column on the right of them
pub record StandsFor (pieces : List Piece) (winding : ℤ) : Type 0 where
  pub at : (i : ℤ) → All (λ piece. piece.column ≤ℤ i) pieces → winding_at i pieces ≡ winding

-- other pieces of the same windings
pub record HasSameWindings (before after : List Piece) : Type 0 where
  pub same : (i : ℤ) → winding_at i after ≡ winding_at i before
  pub rising : AreRising after

-- pieces that begin on the left of the column begin there as ever, under their numbers
pub record KeepsPlacesLeftOf (column : ℤ) (before after : List Piece) : Type 0 where
  pub kept : (number : ℕ) (x : ℤ) → IsPlace before number x → x <ℤ column → IsPlace after number x

-- between these columns the winding is so much more
pub record AddsBetween (low high by : ℤ) (before after : List Piece) : Type 0 where
  pub more : (i : ℤ) → winding_at i after ≡ winding_at i before +ℤ cond (lies_in low high i) by (pos 0)

-- from the column of the piece of this number up to that of the next one
pub record AddsToPiece (number : ℕ) (by : ℤ) (before after : List Piece) : Type 0 where
  pub more : (low high : ℤ) → IsPlace before number low → IsPlace before (number + 1) high → AddsBetween low high by before after
  pub places : (k : ℕ) (x : ℤ) → IsPlace before k x → IsPlace after k x
  pub rising : AreRising after
