-- the names of structures
use Rattle.std.specs.Prelude.{bytes_eq, ℕ, List, map, position, slice_get, Option, Some, ◌≡◌}
use Rattle.library_model.specs.declared.library.Structure.{Structure}

-- the names of the structures, in their order
abbrev pub names_of : List Structure → List (List ℕ)
names_of structures = map (λ structure. structure.name) structures

-- the name stands at this place of the list
abbrev pub StandsAt : List (List ℕ) → List ℕ → ℕ → Type 0
StandsAt names name place = slice_get names place ≡ Some name

-- the first place at which the name stands, if it stands anywhere
abbrev pub place_of : List (List ℕ) → List ℕ → Option ℕ
place_of names name = position (bytes_eq name) names
