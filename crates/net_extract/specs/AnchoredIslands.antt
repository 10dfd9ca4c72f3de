-- the islands of a metal that have two terminals or more
use Rattle.std.specs.Prelude.{ℕ, List, Contains, Some, map, filter, length, slice_get, ◌==◌, ◌≡◌, ◌≤◌, ◌↔◌}
use Rattle.lists.specs.Words.{AllZip}
use Rattle.lists.specs.Differing.{AreDifferent}
use Rattle.geo_core.specs.Plane.{IsInUnion}
use Rattle.geo_core.specs.declared.plane.Cell.{Cell}
use Rattle.geo_core.specs.declared.plane.Rect.{Rect}
use Rattle.fault_model.specs.FaultNames.{IslandLists}
use Rattle.fault_model.specs.declared.island.Spot.{Spot}
use Rattle.net_extract.specs.ContactGroups.{AreGroupsOf}
use Rattle.net_extract.specs.NetLists.{NetLists, pieces_on}
use Rattle.net_extract.specs.Standing.{groups_of, terminals_on_island}
use Rattle.net_extract.specs.declared.pieces.ContactGroup.{ContactGroup}
use Rattle.net_extract.specs.declared.metal_terminals.MetalTerminal.{MetalTerminal}
use Rattle.net_extract.specs.declared.metal_terminals.MetalTerminal.TheVariants.{Named, Group}

-- the rectangles of the metal's pieces that carry the island
abbrev pub rects_of_island : NetLists → ℕ → ℕ → List Rect
rects_of_island nets metal island = map (λ piece. piece.rect) (filter (λ piece. piece.island == island) (pieces_on nets metal))

-- the spot has this cell alone
abbrev pub IsSpotOf : Cell → Spot → Type 0
IsSpotOf cell spot = (c : Cell) → IsInUnion spot.rects c ↔ (c ≡ cell)

-- the spot has the rectangles of the group with this number
abbrev pub IsSpotOfGroup : List ContactGroup → ℕ → Spot → Type 0
IsSpotOfGroup groups number spot = (group : ContactGroup) × (slice_get groups number ≡ Some group) × (spot.rects ≡ group.rects)

-- the spot is the terminal's: its cell alone, or the rectangles of its group
abbrev pub IsSpotOfTerminal : List (List ContactGroup) → MetalTerminal → Spot → Type 0
IsSpotOfTerminal groups (Named cell) spot = IsSpotOf cell spot
IsSpotOfTerminal groups (Group cut number) spot = IsSpotOfGroup (groups_of groups cut) number spot

-- the island is the one that the metal's pieces and terminals carry under this number, with a spot for each terminal
pub record IsIslandNumbered (nets : NetLists) (groups : List (List ContactGroup)) (metal : ℕ) (number : ℕ) (island : IslandLists) : Type 0 where
  pub pieces : island.pieces ≡ rects_of_island nets metal number
  pub anchors : AllZip (IsSpotOfTerminal groups) (terminals_on_island nets groups metal number) island.anchors

-- one island each for the islands of the metal on which two terminals or more stand; the groups of a cut come in any order
pub record AreAnchoredIslands (nets : NetLists) (metal : ℕ) (islands : List IslandLists) : Type 0 where
  pub groups : List (List ContactGroup)
  pub grouped : AllZip AreGroupsOf nets.contacts groups
  pub numbers : List ℕ
  pub once : AreDifferent numbers
  pub exactly : (number : ℕ) → Contains numbers number ↔ (2 ≤ length (terminals_on_island nets groups metal number))
  pub each : AllZip (IsIslandNumbered nets groups metal) numbers islands
