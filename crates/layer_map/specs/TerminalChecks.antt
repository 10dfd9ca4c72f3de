-- What is checked of one item of a document's terminals, one check after the other, and the fault of each.
use Rattle.std.specs.Prelude.{ℕ, ℤ, pos, neg_ℤ, ◌≤ℤ◌, ◌<ℤ◌, List, [], ◌∷◌, ◌++◌, codes, map, Option, Contains}
use Rattle.toml.specs.Data.{Data, integer}
use Rattle.layer_map.specs.Values.{StandsAs, metal_of_item, x_of_item, y_of_item}
use Rattle.layer_map.specs.DocumentPaths.{metal_of_terminal_at, x_at, y_at}
use Rattle.layer_map.specs.ItemChecks.{TableCheck, table_checks, TableHolds, table_fault, ReferenceCheck, reference_checks, ReferenceHolds}
use Rattle.layer_map.specs.ItemChecks.{reference_fault}
use Rattle.layer_map.specs.declared.fault.MapFault.{MapFault}
use Rattle.layer_map.specs.declared.fault.MapFault.TheVariants.{BadValue, RepeatedTerminal}

-- what is checked
pub data TerminalCheck : Type 0 where
  as_table : TableCheck → TerminalCheck
  metal_named : ReferenceCheck → TerminalCheck
  has_x : TerminalCheck
  has_y : TerminalCheck
  is_new : TerminalCheck

-- the checks of an item by itself, in their order
abbrev pub place_checks : List TerminalCheck
place_checks = map as_table table_checks ++ (map metal_named reference_checks ++ (has_x ∷ has_y ∷ []))

-- all checks in their order
abbrev pub terminal_checks : List TerminalCheck
terminal_checks = place_checks ++ is_new ∷ []

-- the keys of a terminal
abbrev pub terminal_keys : List (List ℕ)
terminal_keys = codes "metal" ∷ codes "x" ∷ codes "y" ∷ []

-- the number is a column or a row of a cell that a layout can cover: from -1,000,000,000 to 999,999,999
pub record IsCellNumber (number : ℤ) : Type 0 where
  pub least : neg_ℤ (pos 1000000000) ≤ℤ number
  pub most : number <ℤ pos 1000000000

-- what an item says of a terminal: its metal, and the column and the row of its cell
abbrev pub place_in : Data → Option Data × Option Data × Option Data
place_in item = (metal_of_item item, x_of_item item, y_of_item item)

-- What each demands of an item, where the document's metals are these, and the items before it are these.
abbrev pub TerminalHolds : List Data → List Data → Data → TerminalCheck → Type 0
TerminalHolds metals earlier item (as_table check) = TableHolds terminal_keys item check
TerminalHolds metals earlier item (metal_named check) = ReferenceHolds metals (metal_of_item item) check
TerminalHolds metals earlier item has_x = StandsAs integer IsCellNumber (x_of_item item)
TerminalHolds metals earlier item has_y = StandsAs integer IsCellNumber (y_of_item item)
TerminalHolds metals earlier item is_new = Contains (map place_in earlier) (place_in item) → ⊥

-- the fault that each gives where it fails for the item with this path
abbrev pub terminal_fault : ℕ → TerminalCheck → MapFault
terminal_fault path (as_table check) = table_fault path check
terminal_fault path (metal_named check) = reference_fault (metal_of_terminal_at path) check
terminal_fault path has_x = BadValue (x_at path)
terminal_fault path has_y = BadValue (y_at path)
terminal_fault path is_new = RepeatedTerminal path
