-- marks by numbers
use Rattle.std.specs.Prelude.{ℕ, Bool, true, false, List, ◌≡◌, ◌<◌, ◌↔◌, length, flat_map, slice_index_or, option_to_list, AllPairs, Contains, Option, None}
use Rattle.library_model.specs.Names.{place_of}
use Rattle.library_model.specs.declared.element.Element.{Element}
use Rattle.library_model.specs.declared.element.Element.TheVariants.{Shape as shape_element, Reference as reference_element}
use Rattle.library_model.specs.declared.library.Structure.{Structure}
use Rattle.flatten.specs.Structures.{offset_of}
use Rattle.flatten.specs.Tops.{IsNoOtherTop, IsUnnamed}
use Rattle.flatten.specs.declared.fault.PlaceFault.{PlaceFault}
use Rattle.flatten.specs.declared.fault.PlaceFault.TheVariants.{NoTop, ManyTops}

-- the structure of these names to which an element refers, if it is a reference to one
abbrev pub target_in : List (List ℕ) → Element → Option ℕ
target_in names (shape_element shape) = None
target_in names (reference_element reference) = place_of names reference.target

-- those to which the elements refer
abbrev pub targets_among : List (List ℕ) → List Element → List ℕ
targets_among names = flat_map (λ element. option_to_list (target_in names element))

-- what has this number is marked
abbrev pub IsMarked : List Bool → ℕ → Type 0
IsMarked marks one = slice_index_or marks one false ≡ true

-- these are the numbers below the count that are not marked, in rising order
pub record AreUnmarked (marks : List Bool) (count : ℕ) (numbers : List ℕ) : Type 0 where
  pub each : (one : ℕ) → Contains numbers one ↔ ((one < count) × (IsMarked marks one → ⊥))
  pub rising : AllPairs (λ one other. one < other) numbers

-- why no structure is the only one to which no reference leads: one leads to each, or this is the second
pub data IsTopFault (structures : List Structure) : PlaceFault → Type 0 where
  all_named : ((one : ℕ) → one < length structures → IsUnnamed structures one → ⊥) → IsTopFault structures NoTop
  second_unnamed : {number : ℕ} → number < length structures → ((other : ℕ) → other < number → IsNoOtherTop structures None other)
      → (IsNoOtherTop structures None number → ⊥) → IsTopFault structures (ManyTops (offset_of structures number))
