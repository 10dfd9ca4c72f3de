-- the terminals on an island of a metal: where they lie, and what their names are
use Rattle.std.proofs.Common.{ℕ, ◌<◌, ◌≡◌, refl, sym, ap, ◌∙◌, subst, inl, inr, arith, List, Contains, Some, true, slice_get, length, ◌⊎◌}
use Rattle.lists.proofs.Words.{AllZip, AllZip-long, same_Some, cases_Bool, eqb_tells, get_or_from_slice_get, slice_get_within, length-map, length-enumerate_from}
use Rattle.lists.proofs.Containing.{Contains-none, Contains-slice_get, number_of, some_item}
use Rattle.lists.proofs.Mapping.{Contains-map, Contains-map_from}
use Rattle.geo_core.specs.Plane.{IsInUnion}
use Rattle.geo_core.specs.declared.plane.Cell.{Cell}
use Rattle.geo_core.specs.declared.plane.Half.{Half}
use Rattle.geo_core.specs.declared.plane.Rect.{Rect}
use Rattle.fault_model.specs.FaultNames.{IsOn, LiesIn, Cut}
use Rattle.fault_model.specs.Vias.{TerminalName, named_cell, via}
use Rattle.map_model.specs.MapNames.{LayerMap}
use Rattle.net_extract.specs.ContactGroups.{AreGroupsOf}
use Rattle.net_extract.specs.Cuts.{cut_of, cuts_of, numbered_cuts, terminal_cuts_of}
use Rattle.net_extract.specs.Extraction.{AreNetsOf}
use Rattle.net_extract.specs.NetFacts.{AreNets}
use Rattle.net_extract.specs.NetLists.{NetLists, IsIslandCell, contacts_of, places_of}
use Rattle.net_extract.specs.Standing.{groups_of, island_of_group, terminals_on_island}
use Rattle.net_extract.specs.declared.pieces.Anchor.{Anchor}
use Rattle.net_extract.specs.declared.pieces.ContactGroup.{ContactGroup}
use Rattle.net_extract.specs.declared.metal_terminals.MetalTerminal.{MetalTerminal}
use Rattle.net_extract.specs.declared.metal_terminals.MetalTerminal.TheVariants.{Named, Group}
use Rattle.net_extract.specs.declared.metal_terminals.Standing.{Standing}
use Rattle.net_extract.proofs.StandingLaws.{IsCellStanding, IsGroupStanding, standing_cases, cell_stands, group_stands, on_island}
use Rattle.net_extract.proofs.laws.ClusterLaws.{metals_at}
use Rattle.net_extract.proofs.laws.GroupSetLaws.{group_has, group_at, group_is_cluster}
use Rattle.net_extract.proofs.laws.NamedLaws.{IsIn, IsName, InTerminal, grouped_at, groups_here}

-- ---- the island of the metal that a group carries

module _ (metal lower upper : ℕ) (group : ContactGroup) where
  abbrev pub ends : ℕ × ℕ
  ends = (lower, upper)

  pub island_there : (lower ≡ metal) ⊎ (upper ≡ metal) → (island : ℕ) × (island_of_group metal ends group ≡ Some island)
  island_there has = elim (eqb_tells lower metal) [
    | inl t ↦ (group.lower, rw t.0 refl)
    | inr f ↦ elim (eqb_tells upper metal) [
      | inl t ↦ (group.upper, rw (f.0, t.0) refl)
      | inr g ↦ elim has [ inl low ↦ absurd (f.1 low) | inr high ↦ absurd (g.1 high) ]
    ]
  ]

  pub island_side : (island : ℕ) → island_of_group metal ends group ≡ Some island → ((lower ≡ metal) × (group.lower ≡ island)) ⊎ ((upper ≡ metal) × (group.upper ≡ island))
  island_side island is = elim (eqb_tells lower metal) [
    | inl t ↦ inl (t.1, same_Some group.lower island (rw t.0 at is))
    | inr f ↦ elim (eqb_tells upper metal) [
      | inl t ↦ inr (t.1, same_Some group.upper island (rw (f.0, t.0) at is))
      | inr g ↦ let none = rw (f.0, g.0) at is in cc none
    ]
  ]

-- ---- terminals lie on the islands on which they stand

module _ (nets : NetLists) (facts : AreNets nets) (groups : List (List ContactGroup)) (grouped : AllZip AreGroupsOf nets.contacts groups) (metal : ℕ) where
  group_on : (standing : Standing) (h : Half) → (is : IsGroupStanding nets groups metal standing) → IsIn groups (Group is.cut is.number) h → IsOn (IsIslandCell nets metal standing.island) h
  group_on standing h is inside =
      let group = is.group in
      let same = same_Some inside.group group (sym inside.at ∙ is.at) in
      let on = subst (λ (g : ContactGroup). IsOn (IsInUnion g.rects) h) same inside.on in
      let here = grouped_at nets.contacts groups grouped is.cut is.number group is.at in
      let listed = Contains-slice_get (groups_of groups is.cut) is.number group is.at in
      let k = (group_has (contacts_of nets is.cut) (groups_of groups is.cut) here group h listed).0 on in
      let v = k.2 in
      let lies = facts.contacts is.cut v.contact v.among in
      let pair : ℕ → ℕ → ℕ × ℕ = λ i j. (i, j) in
      let ends = get_or_from_slice_get nets.ends is.cut (pair lies.lower lies.upper) (0, 0) lies.ends in
      let side = island_side metal lies.lower lies.upper group standing.island (subst (λ e. island_of_group metal e group ≡ Some standing.island) ends is.carries) in
      elim side [
        | inl low ↦
            let island = ap (λ (e : ℕ × ℕ). e.0) v.carries ∙ low.1 in
            (k.0, k.1, subst (λ i. IsIslandCell nets metal i k.0) island (subst (λ m. IsIslandCell nets m v.contact.lower k.0) low.0 (lies.on_lower k.0 v.has)))
        | inr high ↦
            let island = ap (λ (e : ℕ × ℕ). e.1) v.carries ∙ high.1 in
            (k.0, k.1, subst (λ i. IsIslandCell nets metal i k.0) island (subst (λ m. IsIslandCell nets m v.contact.upper k.0) high.0 (lies.on_upper k.0 v.has)))
      ]

  cell_on : (standing : Standing) (h : Half) → (is : IsCellStanding nets metal standing) → LiesIn h is.anchor.cell → IsOn (IsIslandCell nets metal standing.island) h
  cell_on standing h is lies =
      let on = facts.anchored is.anchor is.among in
      let island : is.anchor.island ≡ standing.island = sym (ap (λ (s : Standing). s.island) is.is) in
      (is.anchor.cell, lies, subst (λ i. IsIslandCell nets metal i is.anchor.cell) island (subst (λ m. IsIslandCell nets m is.anchor.island is.anchor.cell) is.on_metal on))

  pub lies_on_island : (terminal : MetalTerminal) (island : ℕ) (h : Half) → Contains (terminals_on_island nets groups metal island) terminal → IsIn groups terminal h
      → IsOn (IsIslandCell nets metal island) h
  lies_on_island terminal island h among inside =
      let standing : Standing = record { island = island; terminal = terminal } in
      elim (standing_cases nets groups metal standing ((on_island nets groups metal terminal island).0 among)) [
        | inl is ↦
            let same : terminal ≡ Named is.anchor.cell = ap (λ (s : Standing). s.terminal) is.is in
            cell_on standing h is (subst (λ t. IsIn groups t h) same inside)
        | inr is ↦ group_on standing h is (subst (λ t. IsIn groups t h) is.is inside)
      ]

-- ---- the names of terminals on islands

module _ (layer_map : LayerMap) (lists : List (List Rect)) (nets : NetLists) (are : AreNetsOf layer_map lists nets) (groups : List (List ContactGroup))
    (grouped : AllZip AreGroupsOf nets.contacts groups) (metal : ℕ) where
  -- the name of a terminal with a half square
  pub record IsNamedBy (terminal : MetalTerminal) : Type 0 where
    pub name : TerminalName
    pub is : IsName layer_map lists nets are groups grouped metal terminal name

  -- the terminal cuts are all cuts, or none
  all_cuts : nets.clusters_are_terminals ≡ true → (cut : Cut) → Contains (cuts_of layer_map) cut → Contains (terminal_cuts_of layer_map) cut
  all_cuts flag cut among = let said : layer_map.contacts ≡ true = sym are.terminals ∙ flag in rw said among

  no_cut : (cut : Cut) → Contains (terminal_cuts_of layer_map) cut → (nets.clusters_are_terminals ≡ true) × Contains (cuts_of layer_map) cut
  no_cut cut among = elim (cases_Bool layer_map.contacts) [
    | inl said ↦ (are.terminals ∙ said, rw said at among)
    | inr unsaid ↦ absurd (Contains-none (rw unsaid at among))
  ]

  named_cell_of : (standing : Standing) → IsCellStanding nets metal standing → IsNamedBy standing.terminal
  named_cell_of standing is =
      let pair : ℕ → Cell → ℕ × Cell = λ m c. (m, c) in
      let listed = Contains-map (λ (anchor : Anchor). pair anchor.metal anchor.cell) nets.anchors is.anchor is.among in
      let here = subst (λ m. Contains (places_of nets) (pair m is.anchor.cell)) is.on_metal listed in
      let same : Named is.anchor.cell ≡ standing.terminal = sym (ap (λ (s : Standing). s.terminal) is.is) in
      let found : IsNamedBy (Named is.anchor.cell) = record { name = named_cell is.anchor.cell; is = (refl, subst (λ ts. Contains ts (pair metal is.anchor.cell)) are.anchors here) } in
      subst IsNamedBy same found

  -- the cut with this number
  cut_there : (k : ℕ) → k < length groups → (cut : Cut) × (slice_get (cuts_of layer_map) k ≡ Some cut)
  cut_there k within =
      let as_many = AllZip-long AreGroupsOf nets.contacts groups grouped in
      let cuts = are.cuts in
      some_item (cuts_of layer_map) k (omega (arith, length-map (numbered_cuts layer_map) cut_of, length-enumerate_from (length layer_map.metals) layer_map.cuts))

  named_group_of : (standing : Standing) (h : Half) → (is : IsGroupStanding nets groups metal standing) → IsIn groups (Group is.cut is.number) h → IsNamedBy standing.terminal
  named_group_of standing h is inside =
      let c = cut_there is.cut is.within in
      let pair : ℕ → ℕ → ℕ × ℕ = λ i j. (i, j) in
      let ends = get_or_from_slice_get nets.ends is.cut (pair c.0.lower c.0.upper) (0, 0) (metals_at layer_map lists nets is.cut c.0 are c.1) in
      let side = island_side metal c.0.lower c.0.upper is.group standing.island (subst (λ e. island_of_group metal e is.group ≡ Some standing.island) ends is.carries) in
      let on_metal : (c.0.lower ≡ metal) ⊎ (c.0.upper ≡ metal) = elim side [ inl low ↦ inl low.0 | inr high ↦ inr high.0 ] in
      let found : IsNamedBy (Group is.cut is.number) = record {
        name = via c.0 h;
        is = record {
          at = c.1;
          has = (all_cuts is.flag c.0 (Contains-slice_get (cuts_of layer_map) is.cut c.0 c.1), on_metal);
          group = inside.group;
          numbered = inside.at;
          on = inside.on;
        };
      } in
      subst IsNamedBy (sym is.is) found

  pub name_of : (terminal : MetalTerminal) (island : ℕ) (h : Half) → Contains (terminals_on_island nets groups metal island) terminal → IsIn groups terminal h → IsNamedBy terminal
  name_of terminal island h among inside =
      let standing : Standing = record { island = island; terminal = terminal } in
      elim (standing_cases nets groups metal standing ((on_island nets groups metal terminal island).0 among)) [
        | inl is ↦ named_cell_of standing is
        | inr is ↦ named_group_of standing h is (subst (λ t. IsIn groups t h) is.is inside)
      ]

  -- ---- and back: what a name stands for is a terminal on an island

  pub record IsStanding (name : TerminalName) (h : Half) : Type 0 where
    pub terminal : MetalTerminal
    pub island : ℕ
    pub is : IsName layer_map lists nets are groups grouped metal terminal name
    pub among : Contains (terminals_on_island nets groups metal island) terminal
    pub on : IsOn (IsIslandCell nets metal island) h

  abbrev Inside : TerminalName → Half → Type 0
  Inside = InTerminal layer_map lists nets are groups grouped metal

  cell_standing : (d : Cell) (h : Half) → Inside (named_cell d) h → IsStanding (named_cell d) h
  cell_standing d h inside =
      let pair : ℕ → Cell → ℕ × Cell = λ m c. (m, c) in
      let found = Contains-map_from (λ (anchor : Anchor). pair anchor.metal anchor.cell) nets.anchors (pair metal d) (subst (λ ts. Contains ts (pair metal d)) (sym are.anchors) inside.0) in
      let anchor = found.0 in
      let on_metal : anchor.metal ≡ metal = ap (λ (p : ℕ × Cell). p.0) found.2 in
      let at : anchor.cell ≡ d = ap (λ (p : ℕ × Cell). p.1) found.2 in
      let stands = cell_stands nets groups metal anchor found.1 on_metal in
      let among = (on_island nets groups metal (Named anchor.cell) anchor.island).1 stands in
      let listed = subst (λ e. Contains (terminals_on_island nets groups metal anchor.island) (Named e)) at among in
      record {
        terminal = Named d;
        island = anchor.island;
        is = (refl, inside.0);
        among = listed;
        on = lies_on_island nets are.facts groups grouped metal (Named d) anchor.island h listed inside.1;
      }

  via_standing : (cut : Cut) (contact h : Half) → Inside (via cut contact) h → IsStanding (via cut contact) h
  via_standing cut contact h inside =
      let all = no_cut cut inside.0.0 in
      let k = number_of (cuts_of layer_map) cut all.1 in
      let within : k.0 < length nets.contacts = let small = slice_get_within (cuts_of layer_map) k.0 cut k.1 in let cuts = are.cuts in
      omega (arith, length-map (numbered_cuts layer_map) cut_of, length-enumerate_from (length layer_map.metals) layer_map.cuts) in
      let here = groups_here nets.contacts groups grouped k.0 within in
      let g = group_at layer_map lists nets are k.0 cut k.1 (groups_of groups k.0) here contact inside.1.0 in
      let pair : ℕ → ℕ → ℕ × ℕ = λ i j. (i, j) in
      let ends = get_or_from_slice_get nets.ends k.0 (pair cut.lower cut.upper) (0, 0) (metals_at layer_map lists nets k.0 cut are k.1) in
      let island = island_there metal cut.lower cut.upper g.group inside.0.1 in
      let carries = subst (λ e. island_of_group metal e g.group ≡ Some island.0) (sym ends) island.1 in
      let stands = group_stands nets groups metal k.0 g.place g.group island.0 all.0 g.numbered carries in
      let among = (on_island nets groups metal (Group k.0 g.place) island.0).1 stands in
      let listed = Contains-slice_get (groups_of groups k.0) g.place g.group g.numbered in
      let on = (group_is_cluster layer_map lists nets are k.0 cut k.1 (groups_of groups k.0) here g.group contact h listed g.on).1 inside.1 in
      record {
        terminal = Group k.0 g.place;
        island = island.0;
        is = record { at = k.1; has = inside.0; group = g.group; numbered = g.numbered; on = g.on };
        among = among;
        on = lies_on_island nets are.facts groups grouped metal (Group k.0 g.place) island.0 h among (record { group = g.group; at = g.numbered; on = on });
      }

  pub standing_of : (name : TerminalName) (h : Half) → Inside name h → IsStanding name h
  standing_of (named_cell d) h inside = cell_standing d h inside
  standing_of (via cut contact) h inside = via_standing cut contact h inside
