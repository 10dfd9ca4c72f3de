-- boxes with their numbers, and the pairs of numbers that a scan over them adds
use Rattle.std.specs.Prelude.{ℕ, List, Some, AllPairs, Contains, length, slice_get, ◌≡◌, ◌≤◌, ◌+◌, ◌*◌, ◌⊎◌, ◌↔◌, ◌≤ℤ◌}
use Rattle.classes.specs.Classes.{IsPair}
use Rattle.half_boxes.specs.HalfBoxes.{AreTouchingBoxes, TouchHalves}
use Rattle.half_boxes.specs.declared.boxes.HalfBox.{HalfBox}
use Rattle.half_boxes.specs.declared.scan.Numbered.{Numbered}

-- exactly the boxes of the list, each with its number
abbrev pub AreNumbered : List HalfBox → List Numbered → Type 0
AreNumbered boxes entries = (e : Numbered) → Contains entries e ↔ (slice_get boxes e.number ≡ Some e.one)

-- in the order of their first columns
abbrev pub IsByColumn : List Numbered → Type 0
IsByColumn = AllPairs (λ a b. a.one.columns.low ≤ℤ b.one.columns.low)

-- the two entries touch, and these are their numbers
pub record IsMatch (entry other : Numbered) (p : ℕ × ℕ) : Type 0 where
  pub touch : TouchHalves entry.one other.one
  pub numbers : p ≡ (entry.number, other.number)

-- an entry of the list touches this one, and these are the numbers
pub record IsMatchWith (entry : Numbered) (others : List Numbered) (p : ℕ × ℕ) : Type 0 where
  pub other : Numbered
  pub among : Contains others other
  pub match : IsMatch entry other p

-- two entries of the list touch, and these are their numbers
pub record IsMatchOf (entries : List Numbered) (p : ℕ × ℕ) : Type 0 where
  pub entry : Numbered
  pub among : Contains entries entry
  pub match : IsMatchWith entry entries p

-- the pairs are joined by those of the entry with each of the others that it touches, and by no more than there are others
pub record Adds (entry : Numbered) (others : List Numbered) (old new : List (ℕ × ℕ)) : Type 0 where
  pub kept : (p : ℕ × ℕ) → Contains old p → Contains new p
  pub all : (p : ℕ × ℕ) → IsMatchWith entry others p → Contains new p
  pub none_else : (p : ℕ × ℕ) → Contains new p → Contains old p ⊎ IsMatchWith entry others p
  pub few : length new ≤ length old + length others

-- the pairs are of entries that touch, and are all of these but those of two entries that are left
pub record AreFound (entries left : List Numbered) (pairs : List (ℕ × ℕ)) : Type 0 where
  pub by_column : IsByColumn left
  pub among : (e : Numbered) → Contains left e → Contains entries e
  pub none_else : (p : ℕ × ℕ) → Contains pairs p → IsMatchOf entries p
  pub all : (a b : Numbered) → Contains entries a → Contains entries b → TouchHalves a.one b.one
      → (a.number ≡ b.number) ⊎ (IsPair pairs a.number b.number ⊎ (Contains left a × Contains left b))
  pub short : length left ≤ length entries
  pub few : length pairs + length left * length entries ≤ length entries * length entries

-- all pairs of boxes that touch, each in one order or the other
pub record AreTouchingPairs (boxes : List HalfBox) (pairs : List (ℕ × ℕ)) : Type 0 where
  pub touching : (a b : ℕ) → Contains pairs (a, b) → AreTouchingBoxes boxes a b
  pub all : (a b : ℕ) → AreTouchingBoxes boxes a b → (a ≡ b) ⊎ IsPair pairs a b
  pub few : length pairs ≤ length boxes * length boxes
