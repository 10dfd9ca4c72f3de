-- values of a TOML document, as a map writes them
use Rattle.std.specs.Prelude.{ℕ, pos, Bool, false, ◌≡◌, List, [], ◌∷◌, map, codes, Option, Some}
use Rattle.toml.specs.Data.{Data, integer, boolean, array, table, Items, no_items, item, Members, no_members, member, get, get_member}
use Rattle.toml.specs.View.{items_of}

-- a whole number
abbrev pub whole_number : ℕ → Data
whole_number n = integer (pos n)

-- an array of these values
abbrev pub array_of : List Data → Data
array_of values = array (items_of values)

-- an array of whole numbers
abbrev pub whole_numbers : List ℕ → Data
whole_numbers numbers = array_of (map whole_number numbers)

-- a layer and a datatype: an array of two whole numbers
abbrev pub pair_value : ℕ × ℕ → Data
pair_value pair = whole_numbers (pair.0 ∷ pair.1 ∷ [])

-- an array of layers and datatypes
abbrev pub pairs_value : List (ℕ × ℕ) → Data
pairs_value pairs = array_of (map pair_value pairs)

-- the values of an array
abbrev pub listed : Items → List Data
listed no_items = []
listed (item value items) = value ∷ listed items

-- the values of the array that stands there; of anything else none
abbrev pub values_in : Option Data → List Data
values_in (Some (array items)) = listed items
values_in _ = []

-- the truth value that stands there; where none does, false
abbrev pub truth_in : Option Data → Bool
truth_in (Some (boolean truth)) = truth
truth_in _ = false

-- the keys of a table
abbrev pub keys_in : Members → List (List ℕ)
keys_in no_members = []
keys_in (member key value members) = key ∷ keys_in members

-- the keys of the value, where it is a table; of anything else none
abbrev pub keys_of : Data → List (List ℕ)
keys_of (table members) = keys_in members
keys_of _ = []

-- something of this kind stands there, written so
abbrev pub StandsAs : {A : Type 0} → (A → Data) → (A → Type 0) → Option Data → Type 0
StandsAs {A} written Is there = (thing : A) × (there ≡ Some (written thing)) × Is thing

-- what stands at the keys of a document
abbrev pub version_in : Members → Option Data
version_in = get_member (codes "version")

abbrev pub weights_in : Members → Option Data
weights_in = get_member (codes "weights")

abbrev pub metal_in : Members → Option Data
metal_in = get_member (codes "metal")

abbrev pub cut_in : Members → Option Data
cut_in = get_member (codes "cut")

abbrev pub terminal_in : Members → Option Data
terminal_in = get_member (codes "terminal")

abbrev pub contacts_in : Members → Option Data
contacts_in = get_member (codes "contacts")

-- the items of its arrays
abbrev pub metals_in : Members → List Data
metals_in document = values_in (metal_in document)

abbrev pub cuts_in : Members → List Data
cuts_in document = values_in (cut_in document)

abbrev pub terminals_in : Members → List Data
terminals_in document = values_in (terminal_in document)

-- what stands at the keys of an item
abbrev pub name_of_item : Data → Option Data
name_of_item = get (codes "name")

abbrev pub pairs_of_item : Data → Option Data
pairs_of_item = get (codes "pairs")

abbrev pub lower_of_item : Data → Option Data
lower_of_item = get (codes "lower")

abbrev pub upper_of_item : Data → Option Data
upper_of_item = get (codes "upper")

abbrev pub metal_of_item : Data → Option Data
metal_of_item = get (codes "metal")

abbrev pub x_of_item : Data → Option Data
x_of_item = get (codes "x")

abbrev pub y_of_item : Data → Option Data
y_of_item = get (codes "y")
