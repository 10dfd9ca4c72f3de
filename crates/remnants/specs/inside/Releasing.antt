-- loose boxes of terminals that are not listed any more
use Rattle.std.specs.Prelude.{ℕ, List, Option, Some, None, Contains, ◌≡◌, ◌⊎◌, ◌↔◌}
use Rattle.geo_core.specs.declared.plane.Half.{Half}
use Rattle.half_boxes.specs.HalfBoxes.{LiesWithin}
use Rattle.half_boxes.specs.declared.boxes.HalfBox.{HalfBox}
use Rattle.remnants.specs.declared.parts.Loose.{Loose}
use Rattle.remnants.specs.inside.Parting.{HasLooseOf}

-- the box is of a terminal that is not listed
abbrev pub IsUnlisted : List ℕ → Loose → Type 0
IsUnlisted listed one = (terminal : ℕ) × (one.terminal ≡ Some terminal) × (Contains listed terminal → ⊥)

-- the box of none
abbrev pub plain : HalfBox → Loose
plain part = record { part = part; terminal = None }

-- What becomes of a loose box: one of a terminal that is not listed becomes a box of none, or it goes, where it lies in a box
-- of none.
abbrev pub IsReleased : List ℕ → List HalfBox → Loose → Option Loose → Type 0
IsReleased listed boxes one None = IsUnlisted listed one × ((box : HalfBox) × Contains boxes box × LiesWithin one.part box)
IsReleased listed boxes one (Some it) = (it ≡ one) ⊎ ((it ≡ plain one.part) × IsUnlisted listed one)

-- the new loose boxes are parts of the old ones, have the same half squares together, and the same ones for each listed terminal
pub record AreReleased (listed : List ℕ) (old new : List Loose) : Type 0 where
  pub parts : (it : Loose) → Contains new it → (one : Loose) × Contains old one × (one.part ≡ it.part)
  pub together : (terminal : Option ℕ) (h : Half) → HasLooseOf old terminal h → (some : Option ℕ) × HasLooseOf new some h
  pub each : (terminal : ℕ) (h : Half) → Contains listed terminal → HasLooseOf old (Some terminal) h ↔ HasLooseOf new (Some terminal) h
