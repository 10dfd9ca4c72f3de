-- the nets of a metal by their first cells
use Rattle.std.specs.Prelude.{ℕ, List, AllPairs, Contains, Some, slice_get, ◌≡◌, ◌↔◌}
use Rattle.geo_core.specs.declared.plane.Cell.{Cell}
use Rattle.geo_core.specs.declared.plane.Half.{Half}
use Rattle.fault_model.specs.FaultNames.{Cut, IsSameNetOn, LiesIn}
use Rattle.net_numbers.specs.FirstCells.{Precedes}

-- Below, `covers` says which cells each metal and each cut covers.

-- half squares of the two cells are of one net of the metal
pub record AreOfOneNet (covers : ℕ → Cell → Type 0) (cuts : List Cut) (metal : ℕ) (c d : Cell) : Type 0 where
  pub one : Half
  pub other : Half
  pub in_one : LiesIn one c
  pub in_other : LiesIn other d
  pub same : IsSameNetOn covers cuts metal one other

-- the metal covers the cell, and no cell of the same net on this metal precedes it
pub record IsNetStart (covers : ℕ → Cell → Type 0) (cuts : List Cut) (metal : ℕ) (c : Cell) : Type 0 where
  pub covered : covers metal c
  pub first : (d : Cell) → AreOfOneNet covers cuts metal c d → Precedes d c → ⊥

-- the first cells of all nets that have a cell on the metal, in their order, each once: the place of a net here, counted from 0,
-- is the net's number on the metal
pub record AreNetStarts (covers : ℕ → Cell → Type 0) (cuts : List Cut) (metal : ℕ) (starts : List Cell) : Type 0 where
  pub rising : AllPairs Precedes starts
  pub all : (c : Cell) → Contains starts c ↔ IsNetStart covers cuts metal c

-- the half square is of the net with this number
pub record IsOfNet (covers : ℕ → Cell → Type 0) (cuts : List Cut) (metal : ℕ) (starts : List Cell) (number : ℕ) (h : Half) : Type 0 where
  pub start : Cell
  pub at : slice_get starts number ≡ Some start
  pub corner : Half
  pub in_start : LiesIn corner start
  pub same : IsSameNetOn covers cuts metal corner h
