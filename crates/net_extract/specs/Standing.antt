-- the terminals of a metal with the islands on which they stand
use Rattle.std.specs.Prelude.{ℕ, List, [], Option, Some, None, map, filter, flat_map, length, slice_index_or, option_to_list, if◌then◌else◌, ◌==◌, ◌++◌}
use Rattle.lists.specs.Words.{enumerate_from, range_with_len}
use Rattle.net_extract.specs.NetLists.{NetLists}
use Rattle.net_extract.specs.declared.pieces.Anchor.{Anchor}
use Rattle.net_extract.specs.declared.pieces.ContactGroup.{ContactGroup}
use Rattle.net_extract.specs.declared.metal_terminals.MetalTerminal.{MetalTerminal}
use Rattle.net_extract.specs.declared.metal_terminals.MetalTerminal.TheVariants.{Named, Group}
use Rattle.net_extract.specs.declared.metal_terminals.Standing.{Standing}

-- the groups of the cut with this number
abbrev pub groups_of : List (List ContactGroup) → ℕ → List ContactGroup
groups_of groups cut = slice_index_or groups cut []

-- an anchor as a terminal on its island
abbrev pub standing_cell : Anchor → Standing
standing_cell anchor = record { island = anchor.island; terminal = Named anchor.cell }

-- the metal's anchors on their islands
abbrev pub cells_standing : List Anchor → ℕ → List Standing
cells_standing anchors metal = map standing_cell (filter (λ anchor. anchor.metal == metal) anchors)

-- the island of the metal that a group carries, where the metal is the lower or the upper one of its cut
abbrev pub island_of_group : ℕ → ℕ × ℕ → ContactGroup → Option ℕ
island_of_group metal ends group =
    if ends.0 == metal then Some group.lower else if ends.1 == metal then Some group.upper else None

-- a group with its number, as a terminal of the metal on the island that it carries
abbrev pub standing_group : ℕ → ℕ × ℕ → ℕ → ℕ × ContactGroup → List Standing
standing_group metal ends cut numbered =
    map (λ island. record { island = island; terminal = Group cut numbered.0 }) (option_to_list (island_of_group metal ends numbered.1))

-- the groups of a cut, if it has the metal
abbrev pub groups_standing : ℕ → ℕ × ℕ → ℕ → List ContactGroup → List Standing
groups_standing metal ends cut groups = flat_map (standing_group metal ends cut) (enumerate_from 0 groups)

-- the groups of all cuts that have the metal, in the order of the cuts
abbrev pub clusters_standing : List (ℕ × ℕ) → List (List ContactGroup) → ℕ → List Standing
clusters_standing ends groups metal =
    flat_map (λ cut. groups_standing metal (slice_index_or ends cut (0, 0)) cut (groups_of groups cut)) (range_with_len 0 (length groups))

-- the terminals of the metal: the cells in the order of the map, and then, where clusters are terminals, the groups of each
-- cut that has the metal
abbrev pub standing_on : NetLists → List (List ContactGroup) → ℕ → List Standing
standing_on nets groups metal =
    cells_standing nets.anchors metal ++ (if nets.clusters_are_terminals then clusters_standing nets.ends groups metal else [])

-- those of them that stand on the island with this number
abbrev pub terminals_on_island : NetLists → List (List ContactGroup) → ℕ → ℕ → List MetalTerminal
terminals_on_island nets groups metal island =
    map (λ standing. standing.terminal) (filter (λ standing. standing.island == island) (standing_on nets groups metal))
