-- the places of a document: the path of each, and what stands there
use Rattle.std.specs.Prelude.{ℕ, ◌≡◌, ◌<◌, ◌+◌, List, codes, Option, None, slice_get, Some, option_and_then, IfSome}
use Rattle.toml.specs.Data.{Data, Members, get, get_member}
use Rattle.layer_map.specs.Values.{metals_in, cuts_in, terminals_in}
use Rattle.layer_map.specs.DocumentPaths.{document_path, version_path, metal_path, cut_path, terminal_path}
use Rattle.layer_map.specs.LayerChecks.{metal_keys}
use Rattle.layer_map.specs.CutChecks.{cut_keys}
use Rattle.layer_map.specs.TerminalChecks.{terminal_keys}
use Rattle.layer_map.specs.MapChecks.{map_keys}
use Rattle.map_model.specs.declared.measure.Measure.{Measure}
use Rattle.layer_map.specs.declared.place.ItemKind.{ItemKind}
use Rattle.layer_map.specs.declared.place.ItemKind.TheVariants as kind
use Rattle.layer_map.specs.declared.place.Place.{Place}
use Rattle.layer_map.specs.declared.place.Place.TheVariants as place

-- the key of their list
abbrev pub list_key : ItemKind → List ℕ
list_key kind.Metal = codes "metal"
list_key kind.Cut = codes "cut"
list_key kind.Terminal = codes "terminal"

-- the keys that such an item may have
abbrev pub item_keys : ItemKind → List (List ℕ)
item_keys kind.Metal = metal_keys
item_keys kind.Cut = cut_keys
item_keys kind.Terminal = terminal_keys

-- the path of such an item by its number
abbrev pub item_path : ItemKind → ℕ → ℕ
item_path kind.Metal number = metal_path number
item_path kind.Cut number = cut_path number
item_path kind.Terminal number = terminal_path number

-- the items of a document
abbrev pub items_of : ItemKind → Members → List Data
items_of kind.Metal document = metals_in document
items_of kind.Cut document = cuts_in document
items_of kind.Terminal document = terminals_in document

-- the place has this path in a document whose sizes are measured so: keys follow one another in the order in which they are listed
abbrev pub HasPath : Measure → Place → ℕ → Type 0
HasPath measure place.Document path = path ≡ document_path
HasPath measure (place.Key key) path = (k : ℕ) × (slice_get (map_keys measure) k ≡ Some key.now) × (path ≡ version_path + k)
HasPath measure (place.Item kind number) path = path ≡ item_path kind number
HasPath measure (place.ItemKey kind number key) path = (k : ℕ) × (slice_get (item_keys kind) k ≡ Some key.now) × (path ≡ item_path kind number + 1 + k)

-- how many items of a kind a document may have
abbrev pub most_items : ItemKind → ℕ
most_items kind.Metal = 16
most_items kind.Cut = 16
most_items kind.Terminal = 10000

-- what stands there; the document itself is no value
abbrev pub there : Place → Members → Option Data
there place.Document document = None
there (place.Key key) document = get_member key.now document
there (place.Item kind number) document = slice_get (items_of kind document) number
there (place.ItemKey kind number key) document = option_and_then (get key.now) (slice_get (items_of kind document) number)

-- the item that has the place, or that is it, by its number
abbrev pub item_of : Place → Option (ItemKind × ℕ)
item_of place.Document = None
item_of (place.Key key) = None
item_of (place.Item kind number) = Some (kind, number)
item_of (place.ItemKey kind number key) = Some (kind, number)

-- the keys that the table there may have, or the one round it, in a document whose sizes are measured so
abbrev pub known_at : Measure → Place → List (List ℕ)
known_at measure place.Document = map_keys measure
known_at measure (place.Key key) = map_keys measure
known_at measure (place.Item kind number) = item_keys kind
known_at measure (place.ItemKey kind number key) = item_keys kind

-- the place is in no item past the most that a document may have
abbrev pub IsWithinLimits : Place → Type 0
IsWithinLimits place = IfSome (item_of place) (λ item. item.1 < most_items item.0)
