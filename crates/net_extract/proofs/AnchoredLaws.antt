-- islands with their terminals
use Rattle.std.proofs.Common.{ℕ, ◌+◌, ◌<◌, ◌≤◌, ◌≡◌, ◌≢◌, refl, sym, ap, ◌∙◌, subst, List, [], ◌∷◌, ◌++◌, Bool, true, false, length, get_or, take, map, arith, inl, inr, All, ◌==◌, Contains, filter, nat_le}
use Rattle.lists.proofs.Words.{AllZip, Decides-eqb, leb_tells, append-nil, length-map, slice_get_within, All-nil, All-cons, All-filter, filter_more, AllPairs-filter}
use Rattle.paths.proofs.PathLaws.{within}
use Rattle.geo_core.specs.Plane.{Has, IsInUnion}
use Rattle.geo_core.specs.declared.plane.Cell.{Cell}
use Rattle.fault_model.specs.FaultNames.{IslandLists}
use Rattle.fault_model.specs.IslandLists.{IsAnchoredIsland}
use Rattle.fault_model.specs.declared.island.Spot.{Spot}
use Rattle.fault_model.proofs.HalfLaws.{cell_on, some_half}
use Rattle.fault_model.proofs.UnionLaws.{in_union, among_union}
use Rattle.net_extract.specs.AnchoredIslands.{rects_of_island, IsSpotOfTerminal, IsIslandNumbered, AreAnchoredIslands}
use Rattle.net_extract.specs.ContactGroups.{AreGroupsOf}
use Rattle.net_extract.specs.NetFacts.{AreNets}
use Rattle.net_extract.specs.NetLists.{NetLists, IsIslandCell, pieces_on}
use Rattle.net_extract.specs.Standing.{groups_of, standing_on, terminals_on_island}
use Rattle.net_extract.specs.inside.Anchoring.{AreDifferentCarried, IsThere}
use Rattle.net_extract.specs.declared.pieces.ContactGroup.{ContactGroup}
use Rattle.net_extract.specs.declared.pieces.Piece.{Piece}
use Rattle.net_extract.specs.declared.metal_terminals.MetalTerminal.{MetalTerminal}
use Rattle.net_extract.specs.declared.metal_terminals.MetalTerminal.TheVariants.{Named}
use Rattle.net_extract.specs.declared.metal_terminals.Standing.{Standing}
use Rattle.lists.proofs.Pairing.{AllZip-push}
use Rattle.lists.proofs.Containing.{Contains-slice_get, all_of_each, number_of, some_item}
use Rattle.lists.proofs.Filtering.{Contains-filter, Contains-filter_passes, Contains-from_filter}
use Rattle.lists.proofs.Mapping.{Contains-map, Contains-map_from}
use Rattle.net_extract.proofs.StandingLaws.{on_island, standing_cases}
use Rattle.net_extract.proofs.laws.NamedLaws.{numbered}
use Rattle.net_extract.proofs.laws.StandsLaws.{lies_on_island}

-- the rectangles of an island have the cells of its pieces
module _ (nets : NetLists) (metal number : ℕ) where
  abbrev of_island : Piece → Bool
  of_island piece = piece.island == number

  pub island_cell : (c : Cell) → IsInUnion (rects_of_island nets metal number) c → IsIslandCell nets metal number c
  island_cell c v =
      let found = Contains-map_from (λ (piece : Piece). piece.rect) (filter of_island (pieces_on nets metal)) v.rect (among_union (rects_of_island nets metal number) c v) in
      record {
        piece = found.0;
        among = Contains-from_filter of_island (pieces_on nets metal) found.0 found.1;
        carries = (Decides-eqb found.0.island number).0 (Contains-filter_passes of_island (pieces_on nets metal) found.0 found.1);
        has = subst (λ r. Has r c) (sym found.2) v.has;
      }

  pub in_rects : (c : Cell) → IsIslandCell nets metal number c → IsInUnion (rects_of_island nets metal number) c
  in_rects c v =
      let kept = Contains-filter of_island (pieces_on nets metal) v.piece v.among ((Decides-eqb v.piece.island number).1 v.carries) in
      in_union (rects_of_island nets metal number) v.piece.rect c (Contains-map (λ (piece : Piece). piece.rect) (filter of_island (pieces_on nets metal)) v.piece kept) v.has

module _ (nets : NetLists) (groups : List (List ContactGroup)) (metal : ℕ) where
  abbrev terminals : ℕ → List MetalTerminal
  terminals number = terminals_on_island nets groups metal number

  abbrev pub on : ℕ → Standing → Bool
  on number standing = standing.island == number

  -- two terminals or more stand on the island
  abbrev pub is_anchored : ℕ → Bool
  is_anchored number = nat_le 2 (length (terminals number))

  anchored : (number : ℕ) → 2 ≤ length (terminals number) → is_anchored number ≡ true
  anchored number h = elim (leb_tells 2 (length (terminals number))) [ inl t ↦ t.0 | inr f ↦ let less = f.1 in absurd (omega arith) ]

  not_anchored : (number : ℕ) → length (terminals number) < 2 → is_anchored number ≡ false
  not_anchored number h = elim (leb_tells 2 (length (terminals number))) [ inl t ↦ let le = t.1 in absurd (omega arith) | inr f ↦ f.0 ]

  from_anchored : (number : ℕ) → is_anchored number ≡ true → 2 ≤ length (terminals number)
  from_anchored number e = elim (leb_tells 2 (length (terminals number))) [ inl t ↦ t.1 | inr f ↦ let never = f.0 in cc (e, never) ]

  -- ---- the terminals that are found on an island

  module _ (number : ℕ) (here : List Standing) (are_here : here ≡ filter (on number) (standing_on nets groups metal)) where
    pub terminals_here : map (λ (standing : Standing). standing.terminal) here ≡ terminals number
    terminals_here = ap (map (λ (standing : Standing). standing.terminal)) are_here

    pub as_many : length here ≡ length (terminals number)
    as_many = ap length are_here ∙ sym (length-map (filter (on number) (standing_on nets groups metal)) (λ (standing : Standing). standing.terminal))

  module _ (are : AreNets nets) where
    -- each of them has a spot
    is_there : (standing : Standing) → Contains (standing_on nets groups metal) standing → IsThere groups standing.terminal
    is_there standing among = elim (standing_cases nets groups metal standing among) [
      | inl cell ↦
          let at = are.anchored cell.anchor cell.among in
          let same : standing.terminal ≡ Named cell.anchor.cell = ap (λ (s : Standing). s.terminal) cell.is in
          subst (IsThere groups) (sym same) (at.piece.rect, at.has)
      | inr group ↦
          subst (IsThere groups) (sym group.is) (group.within, slice_get_within (groups_of groups group.cut) group.number group.group group.at)
    ]

    pub all_there : (number : ℕ) (here : List Standing) → here ≡ filter (on number) (standing_on nets groups metal)
        → All (λ (standing : Standing). IsThere groups standing.terminal) here
    all_there number here are_here =
        let There : Standing → Type 0 = λ standing. IsThere groups standing.terminal in
        subst (All There) (sym are_here) (All-filter (on number) There (standing_on nets groups metal) (all_of_each There (standing_on nets groups metal) is_there))

    -- ---- one island

    module _ (grouped : AllZip AreGroupsOf nets.contacts groups) where
      module _ (number : ℕ) (spots : List Spot) (zip : AllZip (IsSpotOfTerminal groups) (terminals number) spots) where
        on_pieces : (spot : Spot) (c : Cell) → Contains spots spot → IsInUnion spot.rects c → IsInUnion (rects_of_island nets metal number) c
        on_pieces spot c among has =
            let k = number_of spots spot among in
            let half = some_half c in
            let n = numbered groups (terminals number) spots zip k.0 half.0 (record { spot = spot; at = k.1; lies = (c, half.1, has) }) in
            let at = lies_on_island nets are groups grouped metal n.terminal number half.0 (Contains-slice_get (terminals number) k.0 n.terminal n.at) n.inside in
            in_rects nets metal number c (cell_on {S = IsIslandCell nets metal number} half.0 c half.1 at)

        -- with a spot for each terminal
        pub one_island : IsAnchoredIsland (record { pieces = rects_of_island nets metal number; anchors = spots })
        one_island = record {
          connected = λ p q p_on q_on. within (λ h at. (at.0, at.1, in_rects nets metal number at.0 at.2)) (are.connected metal number p q
              (p_on.0, p_on.1, island_cell nets metal number p_on.0 p_on.2) (q_on.0, q_on.1, island_cell nets metal number q_on.0 q_on.2));
          on_pieces = on_pieces;
        }

      -- islands that are carried under numbers are connected, and their spots lie on them
      pub each_island : (numbers : List ℕ) (islands : List IslandLists) → AllZip (IsIslandNumbered nets groups metal) numbers islands → All IsAnchoredIsland islands
      each_island [] [] each = All-nil IsAnchoredIsland
      each_island [] (island ∷ islands) each = absurd each
      each_island (number ∷ numbers) [] each = absurd each
      each_island (number ∷ numbers) (island ∷ islands) each =
          let here = one_island number island.anchors each.0.anchors in
          All-cons IsAnchoredIsland island islands (subst (λ rects. IsAnchoredIsland (record { pieces = rects; anchors = island.anchors })) (sym each.0.pieces) here)
          (each_island numbers islands each.1)

  -- ---- island by island

  module _ (numbers : List ℕ) where
    -- the islands with two terminals or more among the first so many numbers
    abbrev pub AreFirstIslands : ℕ → List IslandLists → Type 0
    AreFirstIslands count islands = AllZip (IsIslandNumbered nets groups metal) (filter is_anchored (take count numbers)) islands

    pub island_more : (k : ℕ) (old : List IslandLists) (island : IslandLists) → k < length numbers → 2 ≤ length (terminals (get_or numbers k 0))
        → IsIslandNumbered nets groups metal (get_or numbers k 0) island
        → AreFirstIslands k old → AreFirstIslands (k + 1) (old ++ island ∷ [])
    island_more k old island small many is before =
        rw (filter_more is_anchored numbers k 0 small, anchored (get_or numbers k 0) many) (AllZip-push (IsIslandNumbered nets groups metal) (filter is_anchored (take k numbers)) old
        (get_or numbers k 0) island before is)

    pub island_left_out : (k : ℕ) (old : List IslandLists) → k < length numbers → length (terminals (get_or numbers k 0)) < 2 → AreFirstIslands k old → AreFirstIslands (k + 1) old
    island_left_out k old small few before =
        rw (filter_more is_anchored numbers k 0 small, not_anchored (get_or numbers k 0) few, append-nil (filter is_anchored (take k numbers))) before

    -- where the numbers are those of all terminals, which stand in any order
    module _ (sorted : List Standing) (kept : (number : ℕ) → filter (on number) sorted ≡ filter (on number) (standing_on nets groups metal)) (carried : AreDifferentCarried sorted numbers) where
      -- an island with a terminal is among the numbers
      has_number : (number : ℕ) → 2 ≤ length (terminals number) → Contains numbers number
      has_number number many =
          let terminal = some_item (terminals number) 0 (omega arith) in
          let standing : Standing = record { island = number; terminal = terminal.0 } in
          let among = (on_island nets groups metal terminal.0 number).0 (Contains-slice_get (terminals number) 0 terminal.0 terminal.1) in
          let here = Contains-filter (on number) (standing_on nets groups metal) standing among ((Decides-eqb number number).1 refl) in
          carried.all standing (Contains-from_filter (on number) sorted standing (subst (λ xs. Contains xs standing) (sym (kept number)) here))

      pub all_islands : AllZip AreGroupsOf nets.contacts groups → (islands : List IslandLists) → AllZip (IsIslandNumbered nets groups metal) (filter is_anchored numbers) islands
          → AreAnchoredIslands nets metal islands
      all_islands grouped islands each = record {
        groups = groups;
        grouped = grouped;
        numbers = filter is_anchored numbers;
        once = AllPairs-filter (λ m n. m ≢ n) is_anchored numbers carried.different;
        exactly = λ number. (
          λ among. from_anchored number (Contains-filter_passes is_anchored numbers number among),
          λ many. Contains-filter is_anchored numbers number (has_number number many) (anchored number many),
        );
        each = each;
      }
