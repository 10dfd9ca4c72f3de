-- terminals of a metal as `Nets` lists them, and the names of terminals of the definition
use Rattle.std.proofs.Common.{ℕ, zero, suc, ◌+◌, ◌<◌, ◌≡◌, ◌≢◌, refl, sym, ap, ◌∙◌, subst, inl, inr, arith, List, [], Contains, Some, slice_get, length, slice_index_or, ◌∷◌, ◌⊎◌, ◌↔◌}
use Rattle.lists.proofs.Words.{AllZip, same_Some, eqb_tells}
use Rattle.lists.proofs.Containing.{Contains-slice_get}
use Rattle.geo_core.specs.Plane.{IsInUnion, IsCoveredIn}
use Rattle.geo_core.specs.declared.plane.Cell.{Cell}
use Rattle.geo_core.specs.declared.plane.Half.{Half}
use Rattle.geo_core.specs.declared.plane.Rect.{Rect}
use Rattle.fault_model.specs.FaultNames.{IsOn, LiesIn, Cut, IsInAnchor}
use Rattle.fault_model.specs.Vias.{TerminalName, named_cell, via, IsInTerminal, IsInClusterOf, HasMetal, Differ}
use Rattle.fault_model.specs.declared.island.Spot.{Spot}
use Rattle.map_model.specs.MapNames.{LayerMap}
use Rattle.net_extract.specs.AnchoredIslands.{IsSpotOfTerminal}
use Rattle.net_extract.specs.ContactGroups.{AreGroupsOf}
use Rattle.net_extract.specs.Cuts.{cut_of, cuts_of, numbered_cuts, terminal_cuts_of}
use Rattle.net_extract.specs.Extraction.{AreNetsOf}
use Rattle.net_extract.specs.NetLists.{NetLists}
use Rattle.net_extract.specs.Standing.{groups_of}
use Rattle.net_extract.specs.declared.pieces.ContactGroup.{ContactGroup}
use Rattle.net_extract.specs.declared.pieces.ContactPiece.{ContactPiece}
use Rattle.net_extract.specs.declared.metal_terminals.MetalTerminal.{MetalTerminal}
use Rattle.net_extract.specs.declared.metal_terminals.MetalTerminal.TheVariants.{Named, Group}
use Rattle.net_extract.proofs.IslandLaws.{got_unmapped}
use Rattle.net_extract.proofs.WalkLaws.{got_unnumbered}
use Rattle.net_extract.proofs.laws.BesideLaws.{across_at, back_at}
use Rattle.net_extract.proofs.laws.GroupSetLaws.{group_is_cluster, groups_apart}

-- ---- the half squares of a terminal

module _ (groups : List (List ContactGroup)) where
  -- the group's rectangles have the half square
  pub record IsInGroupAt (cut number : ℕ) (h : Half) : Type 0 where
    pub group : ContactGroup
    pub at : slice_get (groups_of groups cut) number ≡ Some group
    pub on : IsOn (IsInUnion group.rects) h

  abbrev pub IsIn : MetalTerminal → Half → Type 0
  IsIn (Named d) h = LiesIn h d
  IsIn (Group cut number) h = IsInGroupAt cut number h

  in_spot : (terminal : MetalTerminal) (spot : Spot) (h : Half) → IsSpotOfTerminal groups terminal spot → IsIn terminal h ↔ IsOn (IsInUnion spot.rects) h
  in_spot (Named d) spot h is = (λ lies. (d, lies, (is d).1 refl), λ on. subst (LiesIn h) ((is on.0).0 on.2) on.1)
  in_spot (Group cut number) spot h is = (
    λ v.
        let same = same_Some v.group is.0 (sym v.at ∙ is.1) in
        subst (λ rects. IsOn (IsInUnion rects) h) (ap (λ (g : ContactGroup). g.rects) same ∙ sym is.2) v.on,
    λ on. record { group = is.0; at = is.1; on = subst (λ rects. IsOn (IsInUnion rects) h) is.2 on },
  )

  -- the terminal with this number has the half square
  pub record IsInNumbered (terminals : List MetalTerminal) (number : ℕ) (h : Half) : Type 0 where
    pub terminal : MetalTerminal
    pub at : slice_get terminals number ≡ Some terminal
    pub inside : IsIn terminal h

  -- the spots of the terminals have their half squares
  module _ (terminals : List MetalTerminal) (spots : List Spot) (zip : AllZip (IsSpotOfTerminal groups) terminals spots) where
    pub in_anchor : (number : ℕ) (terminal : MetalTerminal) (h : Half) → slice_get terminals number ≡ Some terminal → IsIn terminal h → IsInAnchor spots number h
    in_anchor number terminal h at inside =
        let found = across_at (IsSpotOfTerminal groups) terminals spots number terminal zip at in
        record { spot = found.0; at = found.1; lies = (in_spot terminal found.0 h found.2).0 inside }

    pub numbered : (number : ℕ) (h : Half) → IsInAnchor spots number h → IsInNumbered terminals number h
    numbered number h a =
        let found = back_at (IsSpotOfTerminal groups) terminals spots number a.spot zip a.at in
        record { terminal = found.0; at = found.1; inside = (in_spot found.0 a.spot h found.2).1 a.lies }

    pub in_terminal : (number : ℕ) (terminal : MetalTerminal) (h : Half) → slice_get terminals number ≡ Some terminal → IsInAnchor spots number h → IsIn terminal h
    in_terminal number terminal h at a = let n = numbered number h a in subst (λ t. IsIn t h) (same_Some n.terminal terminal (sym n.at ∙ at)) n.inside

-- ---- names

-- the groups of a cut, where one of them is there
pub grouped_at : (contacts : List (List ContactPiece)) (groups : List (List ContactGroup)) → AllZip AreGroupsOf contacts groups → (cut number : ℕ) (group : ContactGroup)
    → slice_get (groups_of groups cut) number ≡ Some group → AreGroupsOf (slice_index_or contacts cut []) (groups_of groups cut)
grouped_at [] [] zip cut number group at = cc at
grouped_at [] (g ∷ groups) zip cut number group at = absurd zip
grouped_at (c ∷ contacts) [] zip cut number group at = absurd zip
grouped_at (c ∷ contacts) (g ∷ groups) zip zero number group at = zip.0
grouped_at (c ∷ contacts) (g ∷ groups) zip (suc cut) number group at = grouped_at contacts groups zip.1 cut number group at

-- or where the cut is there
pub groups_here : (contacts : List (List ContactPiece)) (groups : List (List ContactGroup)) → AllZip AreGroupsOf contacts groups → (cut : ℕ) → cut < length contacts
    → AreGroupsOf (slice_index_or contacts cut []) (groups_of groups cut)
groups_here [] groups zip cut within = absurd (omega arith)
groups_here (c ∷ contacts) [] zip cut within = absurd zip
groups_here (c ∷ contacts) (g ∷ groups) zip zero within = zip.0
groups_here (c ∷ contacts) (g ∷ groups) zip (suc cut) within = groups_here contacts groups zip.1 cut (omega arith)

module _ (layer_map : LayerMap) (lists : List (List Rect)) (nets : NetLists) (are : AreNetsOf layer_map lists nets) (groups : List (List ContactGroup))
    (grouped : AllZip AreGroupsOf nets.contacts groups) (metal : ℕ) where
  abbrev pub covers : ℕ → Cell → Type 0
  covers = IsCoveredIn lists

  abbrev pub named : Cell → Type 0
  named d = Contains layer_map.terminals (metal, d)

  abbrev pub cuts : List Cut
  cuts = terminal_cuts_of layer_map

  abbrev pub InTerminal : TerminalName → Half → Type 0
  InTerminal = IsInTerminal covers cuts named metal

  -- the name is of the cut with this number and of a contact of its group with that number
  pub record IsGroupName (k number : ℕ) (cut : Cut) (contact : Half) : Type 0 where
    pub at : slice_get (cuts_of layer_map) k ≡ Some cut
    pub has : HasMetal cuts metal cut
    pub group : ContactGroup
    pub numbered : slice_get (groups_of groups k) number ≡ Some group
    pub on : IsOn (IsInUnion group.rects) contact

  -- the name is of this terminal of the metal
  abbrev pub IsName : MetalTerminal → TerminalName → Type 0
  IsName (Named d) (named_cell e) = (d ≡ e) × named e
  IsName (Named d) (via cut contact) = ⊥
  IsName (Group k number) (named_cell e) = ⊥
  IsName (Group k number) (via cut contact) = IsGroupName k number cut contact

  -- a name has the half squares of its terminal
  pub to_terminal : (terminal : MetalTerminal) (name : TerminalName) (h : Half) → IsName terminal name → InTerminal name h → IsIn groups terminal h
  to_terminal (Named d) (named_cell e) h is inside = subst (LiesIn h) (sym is.0) inside.1
  to_terminal (Named d) (via cut contact) h is inside = absurd is
  to_terminal (Group k number) (named_cell e) h is inside = absurd is
  to_terminal (Group k number) (via cut contact) h is inside =
      let here = grouped_at nets.contacts groups grouped k number is.group is.numbered in
      let listed = Contains-slice_get (groups_of groups k) number is.group is.numbered in
      record {
        group = is.group;
        at = is.numbered;
        on = (group_is_cluster layer_map lists nets are k cut is.at (groups_of groups k) here is.group contact h listed is.on).1 inside.1;
      }

  pub from_terminal : (terminal : MetalTerminal) (name : TerminalName) (h : Half) → IsName terminal name → IsIn groups terminal h → InTerminal name h
  from_terminal (Named d) (named_cell e) h is inside = (is.1, subst (LiesIn h) is.0 inside)
  from_terminal (Named d) (via cut contact) h is inside = absurd is
  from_terminal (Group k number) (named_cell e) h is inside = absurd is
  from_terminal (Group k number) (via cut contact) h is inside =
      let here = grouped_at nets.contacts groups grouped k number is.group is.numbered in
      let listed = Contains-slice_get (groups_of groups k) number is.group is.numbered in
      let same = same_Some inside.group is.group (sym inside.at ∙ is.numbered) in
      let on = subst (λ (g : ContactGroup). IsOn (IsInUnion g.rects) h) same inside.on in
      (is.has, (group_is_cluster layer_map lists nets are k cut is.at (groups_of groups k) here is.group contact h listed is.on).0 on)

  -- ---- different terminals, and names that differ

  -- a cut has one number
  cut_number : (k : ℕ) (cut : Cut) → slice_get (cuts_of layer_map) k ≡ Some cut → cut.number ≡ length layer_map.metals + k
  cut_number k cut at =
      let n = got_unmapped cut_of (numbered_cuts layer_map) k cut at in
      sym (ap (λ (c : Cut). c.number) n.2) ∙ (got_unnumbered (length layer_map.metals) layer_map.cuts k n.0 n.1).1

  one_number : (i k : ℕ) (one other : Cut) → slice_get (cuts_of layer_map) i ≡ Some one → slice_get (cuts_of layer_map) k ≡ Some other → one ≡ other → i ≡ k
  one_number i k one other at_i at_k same =
      let a = cut_number i one at_i in
      let b = cut_number k other at_k in
      let c : one.number ≡ other.number = ap (λ (x : Cut). x.number) same in
      omega arith

  group_names_differ : (i m k n : ℕ) (one other : Cut) (p q : Half) → IsGroupName i m one p → IsGroupName k n other q → (Group i m ≢ Group k n)
      → (one ≢ other) ⊎ (IsInClusterOf covers one p q → ⊥)
  group_names_differ i m k n one other p q a b differ = elim (eqb_tells i k) [
    | inl same ↦ inr (λ c.
        let e : k ≡ i = sym same.1 in
        let at_n = subst (λ j. slice_get (groups_of groups j) n ≡ Some b.group) e b.numbered in
        let apart : m ≢ n = λ f. differ (ap (λ j. Group j m) same.1 ∙ ap (Group k) f) in
        let here = grouped_at nets.contacts groups grouped i m a.group a.numbered in
        groups_apart layer_map lists nets are i one a.at (groups_of groups i) here m n a.group b.group p q a.numbered at_n apart a.on b.on c)
    | inr apart ↦ inl (λ e. apart.1 (one_number i k one other a.at b.at e))
  ]

  pub names_differ : (s t : MetalTerminal) (one other : TerminalName) → IsName s one → IsName t other → s ≢ t → Differ covers one other
  names_differ (Named d) (Named e) (named_cell i) (named_cell k) a b differ = λ same. differ (ap Named (a.0 ∙ same ∙ sym b.0))
  names_differ (Named d) (Named e) (named_cell i) (via k q) a b differ = absurd b
  names_differ (Named d) (Named e) (via i p) other a b differ = absurd a
  names_differ (Named d) (Group k n) (named_cell i) (via c q) a b differ = tt
  names_differ (Named d) (Group k n) (named_cell i) (named_cell c) a b differ = absurd b
  names_differ (Named d) (Group k n) (via i p) other a b differ = absurd a
  names_differ (Group i m) (Named e) (via c p) (named_cell k) a b differ = tt
  names_differ (Group i m) (Named e) (via c p) (via k q) a b differ = absurd b
  names_differ (Group i m) (Named e) (named_cell c) other a b differ = absurd a
  names_differ (Group i m) (Group k n) (via c p) (via d q) a b differ = group_names_differ i m k n c d p q a b differ
  names_differ (Group i m) (Group k n) (via c p) (named_cell d) a b differ = absurd b
  names_differ (Group i m) (Group k n) (named_cell c) other a b differ = absurd a

  -- and the other way round: names that differ are of different terminals
  pub terminals_apart : (t : MetalTerminal) (one other : TerminalName) → IsName t one → IsName t other → Differ covers one other → ⊥
  terminals_apart (Named d) (named_cell i) (named_cell k) a b differ = differ (sym a.0 ∙ b.0)
  terminals_apart (Named d) (named_cell i) (via k q) a b differ = absurd b
  terminals_apart (Named d) (via i p) other a b differ = absurd a
  terminals_apart (Group k n) (named_cell i) other a b differ = absurd a
  terminals_apart (Group k n) (via i p) (named_cell j) a b differ = absurd b
  terminals_apart (Group k n) (via i p) (via j q) a b differ =
      let inside = from_terminal (Group k n) (via i p) q a (record { group = b.group; at = b.numbered; on = b.on }) in
      elim differ [
        | inl cuts_differ ↦ cuts_differ (same_Some i j (sym a.at ∙ b.at))
        | inr apart ↦ apart inside.1
      ]
