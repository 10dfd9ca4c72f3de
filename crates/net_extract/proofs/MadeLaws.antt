-- the lists of nets tell what was found
use Rattle.std.proofs.Common.{Bool, length, inl, inr, ◌+◌, ℕ, zero, suc, ◌<◌, ◌≡◌, refl, sym, ap, ◌∙◌, subst, List, [], ◌∷◌, get_or, map, arith, ◌↔◌, All, Contains, Some, slice_get}
use Rattle.lists.proofs.Words.{AllZip, leb_tells, get_or_past, length-map, get_or_default, All-contains, Contains-get_or}
use Rattle.paths.proofs.PathLaws.{within}
use Rattle.geo_core.specs.Plane.{Has, IsInUnion, IsCoveredIn}
use Rattle.geo_core.specs.declared.plane.Cell.{Cell}
use Rattle.geo_core.specs.declared.plane.Half.{Half}
use Rattle.geo_core.specs.declared.plane.Labelled.{Labelled}
use Rattle.geo_core.specs.declared.plane.Rect.{Rect}
use Rattle.fault_model.specs.FaultNames.{IsOn, Cut, Place, IsContact, IsSameNet, IsSameIsland}
use Rattle.fault_model.proofs.HalfLaws.{cell_on}
use Rattle.map_model.specs.MapNames.{JoinsMetals, terminal_of}
use Rattle.lists.specs.Differing.{AreDifferent}
use Rattle.map_model.specs.declared.layers.Cut.{Cut as GivenCut}
use Rattle.map_model.specs.declared.layers.Terminal.{Terminal}
use Rattle.net_extract.specs.inside.Anchoring.{IsAnchorOf}
use Rattle.net_extract.specs.inside.LabelledCells.{HasLabelled}
use Rattle.net_extract.specs.NetFacts.{AreNets, LiesOnIslands}
use Rattle.net_extract.specs.NetLists.{NetLists, IsPieceCell, IsIslandCell, IsNetCell, IsContactCell}
use Rattle.net_extract.specs.inside.Numbering.{AreIslandsOf, AreContactLists, AreNetNumbers, islands_on, piece_of}
use Rattle.net_extract.specs.declared.pieces.Anchor.{Anchor}
use Rattle.net_extract.specs.declared.pieces.ContactPiece.{ContactPiece}
use Rattle.net_extract.specs.declared.pieces.Piece.{Piece}
use Rattle.net_extract.proofs.IslandLaws.{got_mapped}
use Rattle.fault_model.proofs.UnionLaws.{corner_of}
use Rattle.net_extract.proofs.WalkLaws.{cuts_behind, cut_given, contacts_at, walk_from_links, links_from_walk, keeps_island}
use Rattle.lists.proofs.Containing.{Contains-none, Contains-slice_get, number_of, some_item}
use Rattle.lists.proofs.Differing.{AreDifferent-map}
use Rattle.lists.proofs.Mapping.{Contains-map, Contains-map_from}

-- ---- lists

mapped_lists : {X Y : Type 0} (f : X → Y) (xs : List (List X)) (m : ℕ) → get_or (map (map f) xs) m [] ≡ map f (get_or xs m [])
mapped_lists f [] m = refl
mapped_lists f (x ∷ xs) zero = refl
mapped_lists f (x ∷ xs) (suc m) = mapped_lists f xs m

-- the second of two lists in pairs, by number
zip_at : {X Y : Type 0} (R : X → Y → Type 0) (xs : List X) (ys : List Y) (k : ℕ) (y : Y) → AllZip R xs ys → slice_get ys k ≡ Some y → (x : X) × R x y
zip_at R [] [] k y h e = cc e
zip_at R [] (b ∷ ys) k y h e = absurd h
zip_at R (a ∷ xs) [] k y h e = absurd h
zip_at R (a ∷ xs) (b ∷ ys) zero y h e = let same : b ≡ y = cc e in (a, subst (R a) same h.0)
zip_at R (a ∷ xs) (b ∷ ys) (suc k) y h e = zip_at R xs ys k y h.1 e

-- the two metals of a cut
abbrev pub ends_at : GivenCut → ℕ × ℕ
ends_at cut = (cut.lower, cut.upper)

-- ---- anchors

abbrev pub place_of : Anchor → ℕ × Cell
place_of anchor = (anchor.metal, anchor.cell)

pub anchor_places : (islands : List (List Labelled)) (terminals : List Terminal) (anchors : List Anchor) → AllZip (IsAnchorOf islands) terminals anchors
    → map place_of anchors ≡ map terminal_of terminals
anchor_places islands [] [] h = refl
anchor_places islands [] (a ∷ anchors) h = absurd h
anchor_places islands (t ∷ terminals) [] h = absurd h
anchor_places islands (t ∷ terminals) (a ∷ anchors) h =
    let pair : ℕ → Cell → ℕ × Cell = λ m c. (m, c) in
    let same : pair a.metal a.cell ≡ terminal_of t = ap (λ m. pair m a.cell) h.0.metal ∙ ap (pair t.metal) h.0.cell in
    ap (λ p. p ∷ map place_of anchors) same ∙ ap (λ ps. terminal_of t ∷ ps) (anchor_places islands terminals anchors h.1)

same_terminal : (s t : Terminal) → terminal_of s ≡ terminal_of t → s ≡ t
same_terminal s t e =
    let make : ℕ → Cell → Terminal = λ m c. record { metal = m; cell = c } in
    ap (λ (p : ℕ × Cell). make p.0 p.1) e

pub places_differ : (islands : List (List Labelled)) (terminals : List Terminal) (anchors : List Anchor) → AllZip (IsAnchorOf islands) terminals anchors → AreDifferent terminals
    → AreDifferent (map place_of anchors)
places_differ islands terminals anchors zip differ = subst AreDifferent (sym (anchor_places islands terminals anchors zip)) (AreDifferent-map terminal_of terminals same_terminal differ)

-- ---- pieces

-- every label is the number of an island
pub labels_small : (lists : List (List Rect)) (metals count : ℕ) (islands : List (List Labelled)) → AreIslandsOf lists metals count islands → (n : ℕ) → n ≡ count
    → All (All (λ (island : Labelled). island.label < n)) islands
labels_small lists metals count islands are n e m d m_small j other j_small =
    let same = get_or_default islands m d [] m_small in
    let island = get_or (get_or islands m d) j other in
    let among = subst (λ xs. Contains xs island) same (Contains-get_or (get_or islands m d) j other j_small) in
    let cell = corner_of island.rect in
    let small = are.below m island.label cell.0 (record { labelled = island; among = among; carries = refl; has = cell.1 }) in
    omega arith

module _ (islands : List (List Labelled)) (nets : List ℕ) (contacts : List (List ContactPiece)) (ends : List (ℕ × ℕ)) (anchors : List Anchor) (flag : Bool) where
  abbrev pub made : NetLists
  made = record { pieces = map (map (piece_of nets)) islands; contacts = contacts; ends = ends; anchors = anchors; clusters_are_terminals = flag }

  among_pieces : (m : ℕ) (l : Labelled) → Contains (islands_on islands m) l → Contains (get_or (map (map (piece_of nets)) islands) m []) (piece_of nets l)
  among_pieces m l among = subst (λ xs. Contains xs (piece_of nets l)) (sym (mapped_lists (piece_of nets) islands m)) (Contains-map (piece_of nets) (islands_on islands m) l among)

  from_pieces : (m : ℕ) (piece : Piece) → Contains (get_or (map (map (piece_of nets)) islands) m []) piece → (l : Labelled) × Contains (islands_on islands m) l × (piece_of nets l ≡ piece)
  from_pieces m piece among = Contains-map_from (piece_of nets) (islands_on islands m) piece (subst (λ xs. Contains xs piece) (mapped_lists (piece_of nets) islands m) among)

  pub island_cell : (m i : ℕ) (c : Cell) → HasLabelled (islands_on islands m) i c → IsIslandCell made m i c
  island_cell m i c h = record { piece = piece_of nets h.labelled; among = among_pieces m h.labelled h.among; carries = h.carries; has = h.has }

  pub cell_island : (m i : ℕ) (c : Cell) → IsIslandCell made m i c → HasLabelled (islands_on islands m) i c
  cell_island m i c v =
      let found = from_pieces m v.piece v.among in
      record { labelled = found.0; among = found.1; carries = ap (λ (p : Piece). p.island) found.2 ∙ v.carries; has = subst (λ (p : Piece). Has p.rect c) (sym found.2) v.has }

  pub cell_net : (m n : ℕ) (c : Cell) → IsNetCell made m n c → (i : ℕ) × HasLabelled (islands_on islands m) i c × (get_or nets i 0 ≡ n)
  cell_net m n c v =
      let found = from_pieces m v.piece v.among in (
        found.0.label,
        record { labelled = found.0; among = found.1; carries = refl; has = subst (λ (p : Piece). Has p.rect c) (sym found.2) v.has },
        ap (λ (p : Piece). p.net) found.2 ∙ v.carries,
      )

  pub piece_cell : (m : ℕ) (c : Cell) → IsPieceCell made m c ↔ ((i : ℕ) × HasLabelled (islands_on islands m) i c)
  piece_cell m c = (
    λ v. let h = cell_island m v.piece.island c (record { piece = v.piece; among = v.among; carries = refl; has = v.has }) in (v.piece.island, h),
    λ h. let v = island_cell m h.0 c h.1 in record { piece = v.piece; among = v.among; has = v.has },
  )

  module _ (lists : List (List Rect)) (metals count : ℕ) (are : AreIslandsOf lists metals count islands) (given : List GivenCut) (joins : All (JoinsMetals metals) given)
      (lists_are : AreContactLists lists islands given contacts) where
    abbrev covers : ℕ → Cell → Type 0
    covers = IsCoveredIn lists

    pub covered : (m : ℕ) (c : Cell) → m < metals → IsPieceCell made m c ↔ covers m c
    covered m c small =
        let cells = piece_cell m c in
        let tells = are.covered m c small in
        (λ v. tells.0 (cells.0 v), λ v. cells.1 (tells.1 v))

    pub islands_tell : (m i k : ℕ) (p q : Half) → IsOn (IsIslandCell made m i) p → IsOn (IsIslandCell made m k) q → (i ≡ k) ↔ IsSameIsland (covers m) p q
    islands_tell m i k p q p_on q_on =
        let tells = are.joined m m i k p q (p_on.0, p_on.1, cell_island m i p_on.0 p_on.2) (q_on.0, q_on.1, cell_island m k q_on.0 q_on.2) in
        (λ same. (tells.0 same).1, λ walk. tells.1 (refl, walk))

    pub nets_tell : AreNetNumbers count contacts nets → (m n i k : ℕ) (p q : Half) → IsOn (IsNetCell made m i) p → IsOn (IsNetCell made n k) q
        → (i ≡ k) ↔ IsSameNet covers (cuts_behind metals given) (record { metal = m; half = p }) (record { metal = n; half = q })
    nets_tell numbers m n i k p q p_on q_on =
        let a = cell_net m i p_on.0 p_on.2 in
        let b = cell_net n k q_on.0 q_on.2 in
        let one : Place = record { metal = m; half = p } in
        let other : Place = record { metal = n; half = q } in
        let tells = numbers.joined a.0 b.0 (are.below m a.0 p_on.0 a.1) (are.below n b.0 q_on.0 b.1) in (
          λ same. walk_from_links lists metals count islands are given joins contacts lists_are a.0 b.0 one other (p_on.0, p_on.1, a.1) (q_on.0, q_on.1, b.1) (tells.0 (a.2 ∙ same ∙ sym b.2)),
          λ walk. sym a.2 ∙ tells.1 (links_from_walk lists metals count islands are given joins contacts lists_are a.0 b.0 one other (p_on.0, p_on.1, a.1) (q_on.0, q_on.1, b.1) walk) ∙ b.2,
        )

    pub contacts_tell : (k : ℕ) (cut : Cut) (h : Half) → slice_get (cuts_behind metals given) k ≡ Some cut → IsOn (IsContactCell made k) h ↔ IsContact covers cut h
    contacts_tell k cut h at =
        let source = cut_given metals given k cut at in
        let exact = contacts_at lists metals count islands are given joins contacts lists_are k source.0 source.1 in
        let joined = All-contains (JoinsMetals metals) given source.0 joins (Contains-slice_get given k source.0 source.1) in (
          λ on.
              let v = on.2 in
              let told = (exact v.contact.lower v.contact.upper on.0).0 (record { contact = v.contact; among = v.among; lower_is = refl; upper_is = refl; has = v.has }) in
              subst (λ x. IsContact covers x h) source.2 (
                (on.0, on.1, told.0),
                (on.0, on.1, (are.covered source.0.lower on.0 joined.lower).0 (v.contact.lower, told.1)),
                (on.0, on.1, (are.covered source.0.upper on.0 joined.upper).0 (v.contact.upper, told.2)),
              ),
          λ contact.
              let here = subst (λ x. IsContact covers x h) (sym source.2) contact in
              let c = here.0.0 in
              let lies = here.0.1 in
              let lower = (are.covered source.0.lower c joined.lower).1 (cell_on h c lies here.1) in
              let upper = (are.covered source.0.upper c joined.upper).1 (cell_on h c lies here.2) in
              let found = (exact lower.0 upper.0 c).1 (here.0.2, lower.1, upper.1) in
              (c, lies, record { contact = found.contact; among = found.among; has = found.has }),
        )

    -- ---- facts of the type

    connected : (m i : ℕ) (p q : Half) → IsOn (IsIslandCell made m i) p → IsOn (IsIslandCell made m i) q → IsSameIsland (IsIslandCell made m i) p q
    connected m i p q p_on q_on =
        let p_at : IsOn (HasLabelled (islands_on islands m) i) p = (p_on.0, p_on.1, cell_island m i p_on.0 p_on.2) in
        let q_at : IsOn (HasLabelled (islands_on islands m) i) q = (q_on.0, q_on.1, cell_island m i q_on.0 q_on.2) in
        let walk = ((are.joined m m i i p q p_at q_at).0 refl).1 in
        within (λ h on. (on.0, on.1, island_cell m i on.0 on.2)) (keeps_island lists metals count islands are given joins contacts lists_are m i p q p_at walk)

    -- a list that contains something is there
    listed : (k : ℕ) (contact : ContactPiece) → Contains (get_or contacts k []) contact → k < length given
    listed k contact among = elim (leb_tells (length contacts) k) [
      | inl past ↦ absurd (Contains-none (subst (λ xs. Contains xs contact) (get_or_past contacts k [] past.1) among))
      | inr small ↦ let one_each = lists_are.one_each in let less = small.1 in omega arith
    ]

    lies_on_islands : ends ≡ map ends_at given → (k : ℕ) (contact : ContactPiece) → Contains (get_or contacts k []) contact → LiesOnIslands made k contact
    lies_on_islands e k contact among =
        let cut = some_item given k (listed k contact among) in
        let told : (c : Cell) → Has contact.rect c → IsInUnion (get_or lists (metals + k) []) c × HasLabelled (islands_on islands cut.0.lower) contact.lower c
        × HasLabelled (islands_on islands cut.0.upper) contact.upper c =
        λ c has. (contacts_at lists metals count islands are given joins contacts lists_are k cut.0 cut.1 contact.lower contact.upper c).0
        (record { contact = contact; among = among; lower_is = refl; upper_is = refl; has = has }) in
        record {
          lower = cut.0.lower;
          upper = cut.0.upper;
          ends = subst (λ xs. slice_get xs k ≡ Some (ends_at cut.0)) (sym e) (got_mapped ends_at given k cut.0 cut.1);
          on_lower = λ c has. island_cell cut.0.lower contact.lower c (told c has).1;
          on_upper = λ c has. island_cell cut.0.upper contact.upper c (told c has).2;
        }

    pub are_nets : (terminals : List Terminal) → ends ≡ map ends_at given → AllZip (IsAnchorOf islands) terminals anchors → AreDifferent terminals → AreNets made
    are_nets terminals e zip differ = record {
      connected = connected;
      ends = ap length e ∙ length-map given ends_at ∙ sym lists_are.one_each;
      contacts = lies_on_islands e;
      contacts_differ = lists_are.once;
      anchored = λ anchor among.
          let number = number_of anchors anchor among in
          let found = zip_at (IsAnchorOf islands) terminals anchors number.0 anchor zip number.1 in
          let on = subst (λ m. HasLabelled (islands_on islands m) anchor.island found.0.cell) (sym found.1.metal) found.1.on_island in
          island_cell anchor.metal anchor.island anchor.cell (subst (HasLabelled (islands_on islands anchor.metal) anchor.island) (sym found.1.cell) on);
      anchors_differ = places_differ islands terminals anchors zip differ;
    }
