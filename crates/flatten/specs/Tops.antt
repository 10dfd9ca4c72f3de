-- the top: the structure whose placements are wanted
use Rattle.std.specs.Prelude.{ℕ, List, ◌≡◌, ◌<◌, ◌≤◌, ◌↔◌, length, AllPairs, Contains, Option, Some, None, IsSome}
use Rattle.library_model.specs.Names.{names_of, place_of}
use Rattle.library_model.specs.declared.library.Structure.{Structure}
use Rattle.flatten.specs.Structures.{all_targets}

-- no reference of the library leads to the structure
abbrev pub IsUnnamed : List Structure → ℕ → Type 0
IsUnnamed structures one = Contains (all_targets structures) one → ⊥

-- these are the structures to which no reference of the library leads, in rising order
pub record AreTops (structures : List Structure) (tops : List ℕ) : Type 0 where
  pub each : (one : ℕ) → Contains tops one ↔ ((one < length structures) × IsUnnamed structures one)
  pub rising : AllPairs (λ one other. one < other) tops

-- no reference of the library leads to this structure, and one leads to each other
pub record IsOnlyUnnamed (structures : List Structure) (one : ℕ) : Type 0 where
  pub there : one < length structures
  pub unnamed : IsUnnamed structures one
  pub only : (other : ℕ) → other < length structures → IsUnnamed structures other → other ≡ one

-- the top: the structure of the wanted name, and where no name is wanted the only one to which no reference leads
abbrev pub IsTop : List Structure → Option (List ℕ) → ℕ → Type 0
IsTop structures None one = IsOnlyUnnamed structures one
IsTop structures (Some name) one = place_of (names_of structures) name ≡ Some one

-- there is something to choose: a structure of the wanted name, and where no name is wanted any structure
abbrev pub HasTop : List Structure → Option (List ℕ) → Type 0
HasTop structures None = 1 ≤ length structures
HasTop structures (Some name) = IsSome (place_of (names_of structures) name)

-- where no name is wanted: if no reference leads to this structure, then one leads to each structure before it
abbrev pub IsNoOtherTop : List Structure → Option (List ℕ) → ℕ → Type 0
IsNoOtherTop structures None one = IsUnnamed structures one → (other : ℕ) → other < one → IsUnnamed structures other → ⊥
IsNoOtherTop structures (Some name) one = Unit {0}
