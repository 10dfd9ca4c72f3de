-- remnants that part the same terminals
use Rattle.std.specs.Prelude.{ℕ, List, [], ◌∷◌, ◌++◌, Contains, Option, Some, None, ◌≡◌, ◌⊎◌, ◌↔◌}
use Rattle.geo_core.specs.declared.plane.Half.{Half}
use Rattle.half_boxes.specs.HalfBoxes.{HasHalf, HasHalfIn, LiesWithin}
use Rattle.half_boxes.specs.declared.boxes.HalfBox.{HalfBox}
use Rattle.remnants.specs.Remnants.{RemnantLists, IsSplit}
use Rattle.remnants.specs.declared.parts.Loose.{Loose}
use Rattle.remnants.specs.declared.parts.Mark.{Mark}

-- the box has all of `inner`, if there is that, and lies in `outer`
pub record IsBetween (inner : Option HalfBox) (outer removed : HalfBox) : Type 0 where
  pub has_inner : (h : Half) → HasHalfIn inner h → HasHalf removed h
  pub within : LiesWithin removed outer

-- whichever box between the two is removed, the one remnant has parted terminals exactly where the other has
abbrev pub PartAlike : Option HalfBox → HalfBox → RemnantLists → RemnantLists → Type 0
PartAlike inner outer one other = (removed : HalfBox) → IsBetween inner outer removed → IsSplit one removed ↔ IsSplit other removed

-- the remnant with more loose boxes
abbrev pub with_loose : RemnantLists → List Loose → RemnantLists
with_loose remnant more = record {
  fixed = remnant.fixed;
  loose = remnant.loose ++ more;
  marks = remnant.marks;
  terminals = remnant.terminals;
}

-- the part as a loose box, if there is one
abbrev pub loose_of : Option HalfBox → Option ℕ → List Loose
loose_of None terminal = []
loose_of (Some part) terminal = record { part = part; terminal = terminal } ∷ []

-- the mark of the terminal at the leader, if there is the terminal
abbrev pub marks_of : Option ℕ → ℕ → List Mark
marks_of None leader = []
marks_of (Some terminal) leader = record { terminal = terminal; leader = leader } ∷ []

-- a loose box of the terminal, or of none, has the half square
pub record HasLooseOf (loose : List Loose) (terminal : Option ℕ) (h : Half) : Type 0 where
  pub one : Loose
  pub among : Contains loose one
  pub of_terminal : one.terminal ≡ terminal
  pub has : HasHalf one.part h

-- the part, where it has nothing of `outer`, is a fixed box of the new remnant in place of a loose box of the old one
abbrev pub IsSettled : Option HalfBox → Option ℕ → RemnantLists → RemnantLists → Type 0
IsSettled part terminal old new = (inner : Option HalfBox) (outer : HalfBox) → ((h : Half) → HasHalfIn part h → HasHalf outer h → ⊥) →
    (rest : List Loose) → PartAlike inner outer (with_loose old (loose_of part terminal ++ rest)) (with_loose new rest)

-- the new remnant has the parts of the loose box that matter
abbrev pub IsCutInto : Option HalfBox → HalfBox → Loose → RemnantLists → RemnantLists → Type 0
IsCutInto inner outer loose old new = (rest : List Loose) → PartAlike inner outer (with_loose old (loose ∷ rest)) (with_loose new rest)

-- the part of a box that stays loose: what it has in `outer`, but for what `inner` has
pub record IsKeptPart (inner : Option HalfBox) (outer part : HalfBox) (kept : Option HalfBox) : Type 0 where
  pub of_part : (h : Half) → HasHalfIn kept h → HasHalf part h
  pub in_outer : (h : Half) → HasHalfIn kept h → HasHalf outer h
  pub all : (h : Half) → HasHalf part h → HasHalf outer h → HasHalfIn kept h ⊎ HasHalfIn inner h
