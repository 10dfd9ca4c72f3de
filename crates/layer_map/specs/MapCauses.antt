-- why a list of a document may not stand at its place
use Rattle.std.specs.Prelude.{bytes_eq, codes, true, false, ℕ, ◌≡◌, ◌≢◌, ◌<◌, ◌≤◌, ◌+◌, ◌∷◌, [], List, length, slice_get, IsSomeAnd, Some, None}
use Rattle.std.specs.Prelude.{ℤ, ◌≤ℤ◌}
use Rattle.std.specs.Map.{lookup}
use Rattle.lists.specs.Words.{option_map_or}
use Rattle.toml.specs.Data.{Data, Members, integer}
use Rattle.layer_map.specs.Values.{values_in, whole_number}
use Rattle.layer_map.specs.DocumentSizes.{sizes_in}
use Rattle.layer_map.specs.MapPlaces.{there}
use Rattle.layer_map.specs.declared.place.Place.{Place}
use Rattle.layer_map.specs.declared.place.Place.TheVariants as place
use Rattle.layer_map.specs.declared.cause.Asked.{Asked}
use Rattle.layer_map.specs.declared.cause.Cause.{Cause}
use Rattle.layer_map.specs.declared.cause.Cause.TheVariants.{TooMany, Uneven, Outside, Falls}

-- nothing is asked of a list
abbrev pub nothing : Asked
nothing = record { most = None; is_even = false; bounds = None; rises = false }

-- what is asked of the list at each key that has one: the most values, as many as sizes, whole numbers within bounds, rising
abbrev pub asked_of_lists : List (List ℕ × Asked)
asked_of_lists =
    (codes "radii", record { most = Some 32; is_even = false; bounds = Some (1, 1000000); rises = true }) ∷
    (codes "sides", record { most = Some 32; is_even = false; bounds = Some (1, 2000000); rises = true }) ∷
    (codes "weights", record { most = None; is_even = true; bounds = Some (0, 1000000000); rises = false }) ∷
    (codes "metal", record nothing { most = Some 16 }) ∷
    (codes "cut", record nothing { most = Some 16 }) ∷
    (codes "terminal", record nothing { most = Some 10000 }) ∷ []

-- what is asked of the list at a place
abbrev pub asked_at : Place → Asked
asked_at (place.Key key) = option_map_or (λ asked. asked) (lookup (bytes_eq key.now) asked_of_lists) nothing
asked_at place.Document = nothing
asked_at (place.Item kind number) = nothing
asked_at (place.ItemKey kind number key) = nothing

-- the value is no whole number within these bounds
abbrev pub IsOutside : ℕ → ℕ → Data → Type 0
IsOutside low high value = (n : ℕ) → value ≡ whole_number n → low ≤ n → n ≤ high → ⊥

-- both are whole numbers, and the other is not the greater
pub record IsFall (one other : Data) : Type 0 where
  pub first : ℤ
  pub second : ℤ
  pub is_first : one ≡ integer first
  pub is_second : other ≡ integer second
  pub not_greater : second ≤ℤ first

-- the value with this number is not greater than the one before it
abbrev pub FallsAt : List Data → ℕ → Type 0
FallsAt values number =
    (before : ℕ) × (number ≡ before + 1) × IsSomeAnd (slice_get values before) (λ one. IsSomeAnd (slice_get values number) (IsFall one))

-- this is a cause to refuse these values, of which this is asked, where the document has so many sizes
abbrev pub IsCauseIn : Asked → List Data → ℕ → Cause → Type 0
IsCauseIn asked values sizes (TooMany count most) = (asked.most ≡ Some most) × (count ≡ length values) × (most < count)
IsCauseIn asked values sizes (Uneven count wanted) = (asked.is_even ≡ true) × (count ≡ length values) × (wanted ≡ sizes) × (count ≢ wanted)
IsCauseIn asked values sizes (Outside number low high) = (asked.bounds ≡ Some (low, high)) × IsSomeAnd (slice_get values number) (IsOutside low high)
IsCauseIn asked values sizes (Falls number) = (asked.rises ≡ true) × FallsAt values number

-- this is a cause to refuse what stands at the place of the document
abbrev pub IsCause : Members → Place → Cause → Type 0
IsCause document place = IsCauseIn (asked_at place) (values_in (there place document)) (length (values_in (sizes_in document)))
