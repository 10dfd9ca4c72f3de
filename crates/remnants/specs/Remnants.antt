-- what is left of an island round some defects, and which of its terminals are parted there
use Rattle.std.specs.Prelude.{ℕ, List, Contains, All, Some, slice_get, ◌≡◌, ◌≢◌, ◌⊎◌}
use Rattle.paths.specs.Paths.{Path}
use Rattle.geo_core.specs.declared.plane.Half.{Half}
use Rattle.fault_model.specs.FaultNames.{Neighbours}
use Rattle.half_boxes.specs.HalfBoxes.{HasHalf, LiesWithin, TouchHalves}
use Rattle.half_boxes.specs.declared.boxes.HalfBox.{HalfBox}
use Rattle.remnants.specs.declared.parts.Fixed.{Fixed}
use Rattle.remnants.specs.declared.parts.Loose.{Loose}
use Rattle.remnants.specs.declared.parts.Mark.{Mark}

-- A remnant as contracts see it. Fixed boxes stay whatever is removed, and those of one leader are joined, by ways that may
-- no longer be listed. Loose boxes stay but for what is removed. A mark says that a terminal has the half squares of the
-- fixed boxes of a leader, or others that are joined with them.
pub record RemnantLists : Type 0 where
  pub fixed : List Fixed
  pub loose : List Loose
  pub marks : List Mark
  pub terminals : List ℕ

-- a fixed box of this leader has the half square
pub record HasFixed (remnant : RemnantLists) (leader : ℕ) (h : Half) : Type 0 where
  pub fixed : Fixed
  pub among : Contains remnant.fixed fixed
  pub led : fixed.leader ≡ leader
  pub has : HasHalf fixed.part h

-- a loose box has the half square, which is not removed
pub record HasLoose (remnant : RemnantLists) (removed : HalfBox) (h : Half) : Type 0 where
  pub loose : Loose
  pub among : Contains remnant.loose loose
  pub has : HasHalf loose.part h
  pub spared : HasHalf removed h → ⊥

-- the half square is left
abbrev pub Stays : RemnantLists → HalfBox → Half → Type 0
Stays remnant removed h = ((leader : ℕ) × HasFixed remnant leader h) ⊎ HasLoose remnant removed h

-- a step of a way: to a neighbour, or between fixed boxes of one leader
abbrev pub IsStep : RemnantLists → Half → Half → Type 0
IsStep remnant p q = Neighbours p q ⊎ ((leader : ℕ) × HasFixed remnant leader p × HasFixed remnant leader q)

-- a way from one half square that is left to another
abbrev pub Way : RemnantLists → HalfBox → Half → Half → Type 0
Way remnant removed = Path (Stays remnant removed) (IsStep remnant)

-- the terminal is marked at the fixed boxes of a leader, one of which has the half square
pub record IsMarkedAt (remnant : RemnantLists) (terminal : ℕ) (h : Half) : Type 0 where
  pub mark : Mark
  pub among : Contains remnant.marks mark
  pub of_terminal : mark.terminal ≡ terminal
  pub has : HasFixed remnant mark.leader h

-- a loose box of the terminal has the half square, which is not removed
pub record IsLooseOf (remnant : RemnantLists) (removed : HalfBox) (terminal : ℕ) (h : Half) : Type 0 where
  pub loose : Loose
  pub among : Contains remnant.loose loose
  pub of_terminal : loose.terminal ≡ Some terminal
  pub has : HasHalf loose.part h
  pub spared : HasHalf removed h → ⊥

-- the terminal has the half square, or is joined with it
abbrev pub IsAt : RemnantLists → HalfBox → ℕ → Half → Type 0
IsAt remnant removed terminal h = IsMarkedAt remnant terminal h ⊎ IsLooseOf remnant removed terminal h

-- two of the terminals are parted where the box is removed
pub record IsSplit (remnant : RemnantLists) (removed : HalfBox) : Type 0 where
  pub one : ℕ
  pub other : ℕ
  pub one_is : Contains remnant.terminals one
  pub other_is : Contains remnant.terminals other
  pub different : one ≢ other
  pub apart : (p q : Half) → IsAt remnant removed one p → IsAt remnant removed other q → Way remnant removed p q → ⊥

-- the number is that of a fixed box that leads itself
pub record IsLeader (remnant : RemnantLists) (leader : ℕ) : Type 0 where
  pub fixed : Fixed
  pub at : slice_get remnant.fixed leader ≡ Some fixed
  pub itself : fixed.leader ≡ leader

-- leaders are numbers of fixed boxes that lead themselves
pub record HasLeaders (remnant : RemnantLists) : Type 0 where
  pub led : (fixed : Fixed) → Contains remnant.fixed fixed → IsLeader remnant fixed.leader
  pub marked : (mark : Mark) → Contains remnant.marks mark → IsLeader remnant mark.leader

-- and fixed boxes that touch have one leader
pub record IsJoined (remnant : RemnantLists) : Type 0 where
  pub leaders : HasLeaders remnant
  pub touching : (one other : Fixed) → Contains remnant.fixed one → Contains remnant.fixed other →
      TouchHalves one.part other.part → one.leader ≡ other.leader

-- all that is loose lies in the box
abbrev pub IsLooseWithin : RemnantLists → HalfBox → Type 0
IsLooseWithin remnant outer = All (λ (loose : Loose). LiesWithin loose.part outer) remnant.loose
