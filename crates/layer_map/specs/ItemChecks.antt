-- What is checked of items of several kinds alike: that an item is a table with no key but known ones, and that a metal
-- is referred to.
use Rattle.std.specs.Prelude.{ℕ, List, [], ◌∷◌, map, Option, IsSome, All, Contains}
use Rattle.toml.specs.Data.{Data, string, as_table}
use Rattle.layer_map.specs.Values.{StandsAs, keys_of, name_of_item}
use Rattle.layer_map.specs.declared.fault.MapFault.{MapFault}
use Rattle.layer_map.specs.declared.fault.MapFault.TheVariants.{BadKey, BadValue, UnknownMetal}

-- what is checked of an item
pub data TableCheck : Type 0 where
  is_table : TableCheck
  has_known_keys : TableCheck

-- the checks in their order
abbrev pub table_checks : List TableCheck
table_checks = is_table ∷ has_known_keys ∷ []

-- what each demands of an item that may have these keys
abbrev pub TableHolds : List (List ℕ) → Data → TableCheck → Type 0
TableHolds known item is_table = IsSome (as_table item)
TableHolds known item has_known_keys = All (Contains known) (keys_of item)

-- the fault that each gives where it fails for the item with this path
abbrev pub table_fault : ℕ → TableCheck → MapFault
table_fault path is_table = BadValue path
table_fault path has_known_keys = BadKey path

-- what is checked where a metal is referred to by its name
pub data ReferenceCheck : Type 0 where
  is_text : ReferenceCheck
  is_metal : ReferenceCheck

-- the checks in their order
abbrev pub reference_checks : List ReferenceCheck
reference_checks = is_text ∷ is_metal ∷ []

-- What each demands of what stands there, where the document's metals are these: it is a text, and it stands at `name`
-- of one of them, too.
abbrev pub ReferenceHolds : List Data → Option Data → ReferenceCheck → Type 0
ReferenceHolds metals there is_text = StandsAs string (λ text. Unit {0}) there
ReferenceHolds metals there is_metal = Contains (map name_of_item metals) there

-- the fault that each gives where it fails for what stands at this path
abbrev pub reference_fault : ℕ → ReferenceCheck → MapFault
reference_fault path is_text = BadValue path
reference_fault path is_metal = UnknownMetal path
