-- the nets of a metal that are nearest to a cell
use Rattle.std.specs.Prelude.{ℕ, pos, List, Option, Some, None, MatchOption, ◌≢◌, ◌<◌}
use Rattle.geo_core.specs.Plane.{IsNear}
use Rattle.geo_core.specs.declared.plane.Cell.{Cell}
use Rattle.geo_core.specs.declared.plane.Half.{Half}
use Rattle.fault_model.specs.FaultNames.{Cut, IsOn, LiesIn}
use Rattle.near_index.specs.Nearest.{IsNoLater, found_label}
use Rattle.near_index.specs.declared.nearest.Near.{Near}
use Rattle.near_index.specs.declared.nearest.Nearest.{Nearest}
use Rattle.layout_nets.specs.NetNumbers.{AreNetStarts, IsOfNet}

-- Below, `covers` says which cells each metal and each cut covers, and `starts` are the first cells of the metal's nets: the place
-- of a net among them, counted from 0, is its number, which stands as the label of what is near.

-- ---- distances

-- the cell is of the net with this number: a half square of it is
pub record IsNetCell (covers : ℕ → Cell → Type 0) (cuts : List Cut) (metal : ℕ) (starts : List Cell) (number : ℕ) (d : Cell) : Type 0 where
  pub half : Half
  pub lies : LiesIn half d
  pub of_net : IsOfNet covers cuts metal starts number half

-- a cell of the net is at most so far away, both in columns and in rows
pub record HasNetWithin (covers : ℕ → Cell → Type 0) (cuts : List Cut) (metal : ℕ) (starts : List Cell) (c : Cell) (by number : ℕ) : Type 0 where
  pub cell : Cell
  pub of_net : IsNetCell covers cuts metal starts number cell
  pub near : IsNear c cell (pos by)

-- the distance of the cell to the net: one of the net's cells on the metal is so far away, the greater of columns and rows, and none
-- is nearer
pub record IsNetDistance (covers : ℕ → Cell → Type 0) (cuts : List Cut) (metal : ℕ) (starts : List Cell) (c : Cell) (distance number : ℕ) : Type 0 where
  pub reached : HasNetWithin covers cuts metal starts c distance number
  pub least : (less : ℕ) → less < distance → HasNetWithin covers cuts metal starts c less number → ⊥

-- ---- the nearest

-- of the nets but one that may be left out: the one with the least distance, and the least number among equals
pub record IsNearestNet (covers : ℕ → Cell → Type 0) (cuts : List Cut) (metal : ℕ) (starts : List Cell) (c : Cell) (except : Option ℕ) (near : Near) : Type 0 where
  pub other : except ≢ Some near.label
  pub distance : IsNetDistance covers cuts metal starts c near.distance near.label
  pub first : (distance number : ℕ) → except ≢ Some number → IsNetDistance covers cuts metal starts c distance number → IsNoLater near distance number

-- no half square is of another net than the one that may be left out
abbrev pub HasNoOtherNet : (ℕ → Cell → Type 0) → List Cut → ℕ → List Cell → Option ℕ → Type 0
HasNoOtherNet covers cuts metal starts except = (number : ℕ) (h : Half) → except ≢ Some number → IsOfNet covers cuts metal starts number h → ⊥

-- the nearest of the nets but one that may be left out, and none exactly where there is no such net
abbrev pub IsNearestOfNets : (ℕ → Cell → Type 0) → List Cut → ℕ → List Cell → Cell → Option ℕ → Option Near → Type 0
IsNearestOfNets covers cuts metal starts c except near =
    MatchOption near (HasNoOtherNet covers cuts metal starts except) (IsNearestNet covers cuts metal starts c except)

-- The nearest net of the metal, and the nearest of all its other nets. Each half square of the metal is of a net that has a number:
-- no net goes on downwards without end, so that it would have no first cell.
pub record AreNearestNets (covers : ℕ → Cell → Type 0) (cuts : List Cut) (metal : ℕ) (c : Cell) (nearest : Nearest) : Type 0 where
  pub starts : List Cell
  pub are_starts : AreNetStarts covers cuts metal starts
  pub all_numbered : (h : Half) → IsOn (covers metal) h → (number : ℕ) × IsOfNet covers cuts metal starts number h
  pub first : IsNearestOfNets covers cuts metal starts c None nearest.first
  pub second : IsNearestOfNets covers cuts metal starts c (found_label nearest.first) nearest.second
