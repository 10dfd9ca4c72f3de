-- trees that grow from box to box: what is left, the front of the tree that grows, and the pairs that were added
use Rattle.std.specs.Prelude.{ℕ, List, [], Contains, Some, length, slice_get, ◌∷◌, ◌++◌, ◌≡◌, ◌≤◌, ◌+◌, ◌⊎◌}
use Rattle.classes.specs.Classes.{AreJoined}
use Rattle.half_boxes.specs.HalfBoxes.{AreTouchingBoxes, TouchHalves}
use Rattle.half_boxes.specs.inside.Scans.{IsMatchWith}
use Rattle.half_boxes.specs.declared.boxes.HalfBox.{HalfBox}
use Rattle.half_boxes.specs.declared.scan.Numbered.{Numbered}

-- one entry is taken from behind the front, or from behind what is left where there is no front
abbrev pub IsNext : List Numbered → List Numbered → List Numbered → List Numbered → Numbered → Type 0
IsNext front left front' left' one =
    ((front ≡ front' ++ one ∷ []) × (left' ≡ left))
    ⊎ ((front ≡ []) × (front' ≡ []) × (left ≡ left' ++ one ∷ []))

-- Of the entries that were seen, those that this one touches have come to the front with a pair for each, and the others are
-- kept.
pub record Reaches (one : Numbered) (seen kept front front' : List Numbered) (pairs pairs' : List (ℕ × ℕ)) : Type 0 where
  pub front_kept : (e : Numbered) → Contains front e → Contains front' e
  pub pairs_kept : (p : ℕ × ℕ) → Contains pairs p → Contains pairs' p
  pub moved : (e : Numbered) → Contains seen e → Contains kept e ⊎ (Contains front' e × Contains pairs' (one.number, e.number))
  pub apart : (e : Numbered) → Contains kept e → TouchHalves one.one e.one → ⊥
  pub kept_from : (e : Numbered) → Contains kept e → Contains seen e
  pub front_from : (e : Numbered) → Contains front' e → Contains front e ⊎ (Contains seen e × Contains pairs' (one.number, e.number))
  pub pairs_from : (p : ℕ × ℕ) → Contains pairs' p → Contains pairs p ⊎ IsMatchWith one seen p
  pub counted : length kept + length front' ≡ length seen + length front
  pub few : length pairs' + length kept ≡ length pairs + length seen

-- the number is of an entry that is left, or that is at the front
pub record IsOpen (left front : List Numbered) (number : ℕ) : Type 0 where
  pub entry : Numbered
  pub number_is : entry.number ≡ number
  pub among : Contains left entry ⊎ Contains front entry

-- The pairs are of boxes that touch. They join the front, and whatever touches a box that is neither left nor at the front.
pub record AreGrown (boxes : List HalfBox) (left front : List Numbered) (pairs : List (ℕ × ℕ)) : Type 0 where
  pub numbered : (e : Numbered) → Contains left e ⊎ Contains front e → slice_get boxes e.number ≡ Some e.one
  pub touching : (a b : ℕ) → Contains pairs (a, b) → AreTouchingBoxes boxes a b
  pub as_one : (e f : Numbered) → Contains front e → Contains front f → AreJoined (length boxes) pairs e.number f.number
  pub all : (a b : ℕ) → AreTouchingBoxes boxes a b → AreJoined (length boxes) pairs a b ⊎ IsOpen left front a
  pub few : length pairs + length left ≤ length boxes
