-- opens of a metal are those of its islands
use Rattle.std.proofs.Common.{ℕ, ◌<◌, ◌≤◌, ◌≡◌, ◌≢◌, refl, sym, ap, ◌∙◌, subst, inl, inr, arith, List, [], ◌∷◌, ◌↔◌, length, Contains, Some, slice_get}
use Rattle.lists.proofs.Words.{cases_lt, get_or_from_slice_get, get_or_past, leb_tells, same_Some, slice_get_within}
use Rattle.lists.proofs.Containing.{Contains-cons_cases, Contains-none, Contains-slice_get, number_of}
use Rattle.lists.specs.Differing.{AreDifferent}
use Rattle.paths.specs.Paths.{stay, step}
use Rattle.paths.proofs.PathLaws.{first, within}
use Rattle.geo_core.specs.Plane.{IsInUnion, IsCoveredIn}
use Rattle.geo_core.specs.declared.plane.Cell.{Cell}
use Rattle.geo_core.specs.declared.plane.Half.{Half}
use Rattle.geo_core.specs.declared.plane.Rect.{Rect}
use Rattle.fault_model.specs.FaultNames.{IsOn, Walk, IslandLists, IsIslandOpen, IsViasOpen}
use Rattle.map_model.specs.MapNames.{LayerMap}
use Rattle.net_extract.specs.AnchoredIslands.{rects_of_island, IsIslandNumbered, AreAnchoredIslands}
use Rattle.net_extract.specs.Cuts.{terminal_cuts_of}
use Rattle.net_extract.specs.Extraction.{AreNetsOf}
use Rattle.net_extract.specs.NetLists.{NetLists, IsIslandCell}
use Rattle.net_extract.specs.Standing.{terminals_on_island}
use Rattle.net_extract.specs.declared.metal_terminals.MetalTerminal.{MetalTerminal}
use Rattle.net_extract.proofs.AnchoredLaws.{island_cell, in_rects}
use Rattle.net_extract.proofs.StandingLaws.{terminals_differ}
use Rattle.net_extract.proofs.laws.BesideLaws.{across_from, back_from}
use Rattle.net_extract.proofs.laws.NamedLaws.{IsName, in_anchor, in_terminal, numbered, from_terminal, to_terminal, names_differ, terminals_apart}
use Rattle.net_extract.proofs.laws.StandsLaws.{lies_on_island, name_of, standing_of}

-- ---- lists

-- a list that contains two different things has two items or more
two_different : {X : Type 0} (xs : List X) (x y : X) → Contains xs x → Contains xs y → x ≢ y → 2 ≤ length xs
two_different [] x y h g differ = absurd (Contains-none h)
two_different (a ∷ []) x y h g differ = elim (Contains-cons_cases a [] x h) [
  | inl e ↦ elim (Contains-cons_cases a [] y g) [ inl f ↦ absurd (differ (sym e ∙ f)) | inr none ↦ absurd (Contains-none none) ]
  | inr none ↦ absurd (Contains-none none)
]
two_different (a ∷ b ∷ xs) x y h g differ = omega arith

module _ {X : Type 0} (xs : List X) (i k : ℕ) (x y : X) (at_i : slice_get xs i ≡ Some x) (at_k : slice_get xs k ≡ Some y) where
  -- what stands under different numbers differs, where all items do
  items_differ : AreDifferent xs → i ≢ k → x ≢ y
  items_differ differ apart e = elim (cases_lt i k) [
    | inl l ↦ differ i k x l (slice_get_within xs k y at_k) (get_or_from_slice_get xs i x x at_i ∙ e ∙ sym (get_or_from_slice_get xs k y x at_k))
    | inr l ↦ differ k i x (omega arith) (slice_get_within xs i x at_i) (get_or_from_slice_get xs k y x at_k ∙ sym e ∙ sym (get_or_from_slice_get xs i x x at_i))
  ]

  -- and different items stand under different numbers
  numbers_differ : x ≢ y → i ≢ k
  numbers_differ apart e = apart (same_Some x y (sym at_i ∙ ap (slice_get xs) e ∙ at_k))

module _ (layer_map : LayerMap) (lists : List (List Rect)) (nets : NetLists) (are : AreNetsOf layer_map lists nets) (metal : ℕ) where
  abbrev covered : Cell → Type 0
  covered = IsCoveredIn lists metal

  abbrev named : Cell → Type 0
  named d = Contains layer_map.terminals (metal, d)

  -- ---- islands in the metal

  -- what has an island is a metal of the map
  metal_small : (i : ℕ) (c : Cell) → IsIslandCell nets metal i c → metal < length layer_map.metals
  metal_small i c v = elim (leb_tells (length layer_map.metals) metal) [
    | inl past ↦
        let as_many = are.metals in
        let le = past.1 in
        absurd (Contains-none (subst (λ ps. Contains ps v.piece) (get_or_past nets.pieces metal [] (omega arith)) v.among))
    | inr small ↦ small.1
  ]

  in_metal : (i : ℕ) (c : Cell) → IsIslandCell nets metal i c → covered c
  in_metal i c v = (are.covered metal c (metal_small i c v)).0 (record { piece = v.piece; among = v.among; has = v.has })

  rects_in_metal : (i : ℕ) (c : Cell) → IsInUnion (rects_of_island nets metal i) c → covered c
  rects_in_metal i c v = in_metal i c (island_cell nets metal i c v)

  -- a walk on the metal keeps to its island
  keeps_to : (Also : Half → Type 0) (i : ℕ) (p q : Half) → IsOn (IsIslandCell nets metal i) p → Walk (λ h. IsOn covered h × Also h) p q
      → Walk (λ h. IsOn (IsIslandCell nets metal i) h × Also h) p q
  keeps_to Also i p q p_on (stay (on, also)) = stay (p_on, also)
  keeps_to Also i p q p_on (step {b = b} (on, also) n w) =
      let next = (first w).0 in
      let v = (are.covered metal next.0 (metal_small i p_on.0 p_on.2)).1 next.2 in
      let b_on : IsOn (IsIslandCell nets metal v.piece.island) b = (next.0, next.1, record { piece = v.piece; among = v.among; carries = refl; has = v.has }) in
      let same = (are.islands metal i v.piece.island p b p_on b_on).1 (step on n (stay next)) in
      step (p_on, also) n (keeps_to Also i b q (subst (λ k. IsOn (IsIslandCell nets metal k) b) (sym same) b_on) w)

  module _ (s : ℕ) (c : Cell) (islands : List IslandLists) (anchored : AreAnchoredIslands nets metal islands) where
    abbrev Opens : Type 0
    Opens = IsViasOpen (IsCoveredIn lists) (terminal_cuts_of layer_map) named metal s c

    abbrev terminals : ℕ → List MetalTerminal
    terminals = terminals_on_island nets anchored.groups metal

    abbrev Numbered : ℕ → IslandLists → Type 0
    Numbered = IsIslandNumbered nets anchored.groups metal

    -- ---- an island that is open, and the metal

    metal_open : (i : ℕ) (island : IslandLists) → Numbered i island → IsIslandOpen island s c → Opens
    metal_open i island is o =
        let groups = anchored.groups in
        let all = terminals i in
        let t = o.tied in
        let a = numbered groups all island.anchors is.anchors o.one t.0 t.2 in
        let b = numbered groups all island.anchors is.anchors o.other t.1 t.3 in
        let a_among = Contains-slice_get all o.one a.terminal a.at in
        let b_among = Contains-slice_get all o.other b.terminal b.at in
        let one = name_of layer_map lists nets are groups anchored.grouped metal a.terminal i t.0 a_among a.inside in
        let other = name_of layer_map lists nets are groups anchored.grouped metal b.terminal i t.1 b_among b.inside in
        let apart = items_differ all o.one o.other a.terminal b.terminal a.at b.at (terminals_differ nets groups metal are.facts i) o.different in
        record {
          one = one.name;
          other = other.name;
          different = names_differ layer_map lists nets are groups anchored.grouped metal a.terminal b.terminal one.name other.name one.is other.is apart;
          tied = (
            t.0,
            t.1,
            from_terminal layer_map lists nets are groups anchored.grouped metal a.terminal one.name t.0 one.is a.inside,
            from_terminal layer_map lists nets are groups anchored.grouped metal b.terminal other.name t.1 other.is b.inside,
            within (λ h on. (on.0, on.1, rects_in_metal i on.0 (subst (λ rects. IsInUnion rects on.0) is.pieces on.2))) t.4,
          );
          parted = λ p q p_in q_in w.
              let p_inside = to_terminal layer_map lists nets are groups anchored.grouped metal a.terminal one.name p one.is p_in in
              let q_inside = to_terminal layer_map lists nets are groups anchored.grouped metal b.terminal other.name q other.is q_in in
              let p_on = lies_on_island nets are.facts groups anchored.grouped metal a.terminal i p a_among p_inside in
              o.parted p q (in_anchor groups all island.anchors is.anchors o.one a.terminal p a.at p_inside) (in_anchor groups all island.anchors is.anchors o.other b.terminal q b.at q_inside)
              (within (λ h (h_on, spared). ((h_on.0, h_on.1, subst (λ rects. IsInUnion rects h_on.0) (sym is.pieces) (in_rects nets metal i h_on.0 h_on.2)), spared)) (keeps_to _ i p q p_on w));
        }

    -- ---- and back

    island_open : (o : Opens) → (island : IslandLists) × Contains islands island × IsIslandOpen island s c
    island_open o =
        let groups = anchored.groups in
        let t = o.tied in
        let a = standing_of layer_map lists nets are groups anchored.grouped metal o.one t.0 t.2 in
        let b = standing_of layer_map lists nets are groups anchored.grouped metal o.other t.1 t.3 in
        let i = a.island in
        let all = terminals i in
        let same = (are.islands metal i b.island t.0 t.1 a.on b.on).1 t.4 in
        let b_among = subst (λ k. Contains (terminals k) b.terminal) (sym same) b.among in
        let b_on = subst (λ k. IsOn (IsIslandCell nets metal k) t.1) (sym same) b.on in
        let apart : a.terminal ≢ b.terminal = λ e.
        let is = subst (λ x. IsName layer_map lists nets are groups anchored.grouped metal x o.other) (sym e) b.is in
        terminals_apart layer_map lists nets are groups anchored.grouped metal a.terminal o.one o.other a.is is o.different in
        let many = two_different all a.terminal b.terminal a.among b_among apart in
        let found = across_from Numbered anchored.numbers islands i anchored.each ((anchored.exactly i).1 many) in
        let island = found.0 in
        let is = found.2 in
        let m = number_of all a.terminal a.among in
        let n = number_of all b.terminal b_among in
        let p_inside = to_terminal layer_map lists nets are groups anchored.grouped metal a.terminal o.one t.0 a.is t.2 in
        let q_inside = to_terminal layer_map lists nets are groups anchored.grouped metal b.terminal o.other t.1 b.is t.3 in
        let joined = are.facts.connected metal i t.0 t.1 a.on b_on in (
          island,
          found.1,
          record {
            one = m.0;
            other = n.0;
            different = numbers_differ all m.0 n.0 a.terminal b.terminal m.1 n.1 apart;
            tied = (
              t.0,
              t.1,
              in_anchor groups all island.anchors is.anchors m.0 a.terminal t.0 m.1 p_inside,
              in_anchor groups all island.anchors is.anchors n.0 b.terminal t.1 n.1 q_inside,
              within (λ h on. (on.0, on.1, subst (λ rects. IsInUnion rects on.0) (sym is.pieces) (in_rects nets metal i on.0 on.2))) joined,
            );
            parted = λ p q p_in q_in w.
                let p_inside = in_terminal groups all island.anchors is.anchors m.0 a.terminal p m.1 p_in in
                let q_inside = in_terminal groups all island.anchors is.anchors n.0 b.terminal q n.1 q_in in
                o.parted p q (from_terminal layer_map lists nets are groups anchored.grouped metal a.terminal o.one p a.is p_inside)
                (from_terminal layer_map lists nets are groups anchored.grouped metal b.terminal o.other q b.is q_inside)
                (within (λ h (h_on, spared). ((h_on.0, h_on.1, rects_in_metal i h_on.0 (subst (λ rects. IsInUnion rects h_on.0) is.pieces h_on.2)), spared)) w);
          },
        )

    pub opens_are_of_islands : ((island : IslandLists) × Contains islands island × IsIslandOpen island s c) ↔ Opens
    opens_are_of_islands = (
      λ (island, among, o).
          let from = back_from Numbered anchored.numbers islands island anchored.each among in
          metal_open from.0 island from.2 o,
      island_open,
    )
