-- net walks, and contact pieces that lead from island to island
use Rattle.std.proofs.Common.{ℕ, zero, suc, ◌+◌, ◌<◌, ◌≡◌, refl, sym, ap, ◌∙◌, subst, List, [], ◌∷◌, length, get_or, map, arith, inl, inr, ◌⊎◌, All, Contains, Some, slice_get}
use Rattle.lists.proofs.Words.{enumerate_from, leb_tells, get_or_past, All-contains, Contains-get_or, slice_get_within, get_or_from_slice_get}
use Rattle.paths.specs.Paths.{stay, step}
use Rattle.paths.specs.Parts.{AreJoint, AreLinkedParts}
use Rattle.paths.proofs.PartLaws.{chain_from_path, path_from_chain}
use Rattle.paths.proofs.PathLaws.{first}
use Rattle.geo_core.specs.declared.plane.Cell.{Cell}
use Rattle.geo_core.specs.declared.plane.Half.{Half}
use Rattle.geo_core.specs.declared.plane.Labelled.{Labelled}
use Rattle.geo_core.specs.declared.plane.Rect.{Rect}
use Rattle.fault_model.specs.FaultNames.{LiesIn, IsOn, Neighbours, Cut, Place, Joins, IsOnMetal, NetStep, along, through, NetWalk, Walk}
use Rattle.fault_model.proofs.HalfLaws.{cell_on, some_half}
use Rattle.fault_model.specs.Nets.{JoinMetals}
use Rattle.fault_model.proofs.NetLaws.{on_metal, step_keeps}
use Rattle.map_model.specs.MapNames.{MappedCut, JoinsMetals, mapped_cut}
use Rattle.map_model.specs.declared.layers.Cut.{Cut as GivenCut}
use Rattle.geo_core.specs.Plane.{IsCoveredIn}
use Rattle.net_extract.specs.Cuts.{cut_of}
use Rattle.net_extract.specs.inside.LabelledCells.{HasLabelled, AreContactsOf}
use Rattle.net_extract.specs.inside.Numbering.{AreIslandsOf, AreContactLists, IsLink, AreLinked, islands_on}
use Rattle.net_extract.specs.declared.pieces.ContactPiece.{ContactPiece}
use Rattle.lists.proofs.Numbering.{slice_get-enumerate}
use Rattle.net_extract.proofs.IslandLaws.{got_mapped, got_unmapped}
use Rattle.fault_model.proofs.UnionLaws.{corner_of}
use Rattle.lists.proofs.Containing.{Contains-none, Contains-slice_get, number_of, some_item}

-- an item with its number, by its number
pub got_unnumbered : {X : Type 0} (n : ℕ) (xs : List X) (k : ℕ) (y : ℕ × X) → slice_get (enumerate_from n xs) k ≡ Some y → (slice_get xs k ≡ Some y.1) × (y.0 ≡ n + k)
got_unnumbered n [] k y e = cc e
got_unnumbered n (x ∷ xs) zero y e = let same : (n, x) ≡ y = cc e in (ap (λ p. Some p.1) same, sym (ap (λ p. p.0) same) ∙ (omega arith))
got_unnumbered n (x ∷ xs) (suc k) y e = let rest = got_unnumbered (n + 1) xs k y e in (rest.0, rest.1 ∙ (omega arith))

module _ (metals : ℕ) (given : List GivenCut) where
  -- the cuts with their numbers, which go on behind those of the metals
  abbrev pub cuts_behind : List Cut
  cuts_behind = map cut_of (enumerate_from metals (map mapped_cut given))

  abbrev pub behind : ℕ → GivenCut → Cut
  behind k cut = record { number = metals + k; lower = cut.lower; upper = cut.upper }

  pub cut_listed : (k : ℕ) (cut : GivenCut) → slice_get given k ≡ Some cut → slice_get cuts_behind k ≡ Some (behind k cut)
  cut_listed k cut at = got_mapped cut_of (enumerate_from metals (map mapped_cut given)) k (metals + k, mapped_cut cut)
      (slice_get-enumerate metals (map mapped_cut given) k (mapped_cut cut) (got_mapped mapped_cut given k cut at))

  pub cut_given : (k : ℕ) (cut : Cut) → slice_get cuts_behind k ≡ Some cut → (source : GivenCut) × (slice_get given k ≡ Some source) × (behind k source ≡ cut)
  cut_given k cut at =
      let numbered = got_unmapped cut_of (enumerate_from metals (map mapped_cut given)) k cut at in
      let mapped = got_unnumbered metals (map mapped_cut given) k numbered.0 numbered.1 in
      let source = got_unmapped mapped_cut given k numbered.0.1 mapped.0 in
      let pair : ℕ → MappedCut → ℕ × MappedCut = λ i x. (i, x) in
      let same : pair (metals + k) (mapped_cut source.0) ≡ numbered.0 = ap (λ i. pair i (mapped_cut source.0)) (sym mapped.1) ∙ ap (pair numbered.0.0) source.2 in
      (source.0, source.1, ap cut_of same ∙ numbered.2)

-- there are no islands on what is no metal
pub island_metal : (lists : List (List Rect)) (metals count : ℕ) (islands : List (List Labelled)) → AreIslandsOf lists metals count islands → (m i : ℕ) (c : Cell)
    → HasLabelled (islands_on islands m) i c → m < metals
island_metal lists metals count islands are m i c h = elim (leb_tells metals m) [
  | inl past ↦
      let one_each = are.one_each in
      let le = past.1 in
      absurd (Contains-none (subst (λ xs. Contains xs h.labelled) (get_or_past islands m [] (omega arith)) h.among))
  | inr small ↦ small.1
]

module _ (lists : List (List Rect)) (metals count : ℕ) (islands : List (List Labelled)) (are : AreIslandsOf lists metals count islands)
    (given : List GivenCut) (joins : All (JoinsMetals metals) given) (contacts : List (List ContactPiece)) (lists_are : AreContactLists lists islands given contacts) where
  abbrev covers : ℕ → Cell → Type 0
  covers = IsCoveredIn lists

  abbrev cuts : List Cut
  cuts = cuts_behind metals given

  -- the place lies on the island with this number
  abbrev pub LiesOn : ℕ → Place → Type 0
  LiesOn i place = IsOn (HasLabelled (islands_on islands place.metal) i) place.half

  metal_small : (m i : ℕ) (c : Cell) → HasLabelled (islands_on islands m) i c → m < metals
  metal_small = island_metal lists metals count islands are

  -- the metal has the half square of an island
  pub lies_on_metal : (i : ℕ) (p : Place) → LiesOn i p → IsOnMetal covers p
  lies_on_metal i p (c, lies, h) = (c, lies, (are.covered p.metal c (metal_small p.metal i c h)).0 (i, h))

  -- and each of its half squares lies on some island
  pub some_island : (p : Place) → p.metal < metals → IsOnMetal covers p → (i : ℕ) × LiesOn i p
  some_island p small (c, lies, on) = let found = (are.covered p.metal c small).1 on in (found.0, (c, lies, found.1))

  pub number_small : (i : ℕ) (p : Place) → LiesOn i p → i < count
  number_small i p (c, lies, h) = are.below p.metal i c h

  -- ---- what contact pieces say

  -- a contact piece, with its cut and one of its cells
  pub record IsLinkAt (i k : ℕ) : Type 0 where
    pub number : ℕ
    pub cut : GivenCut
    pub at : slice_get given number ≡ Some cut
    pub cell : Cell
    pub cut_has : covers (metals + number) cell
    pub lower : HasLabelled (islands_on islands cut.lower) i cell
    pub upper : HasLabelled (islands_on islands cut.upper) k cell

  -- the rectangles of a cut stand behind those of the metals
  pub contacts_at : (k : ℕ) (cut : GivenCut) → slice_get given k ≡ Some cut → AreContactsOf (get_or lists (metals + k) []) (islands_on islands cut.lower) (islands_on islands cut.upper)
      (get_or contacts k [])
  contacts_at k cut at = subst (λ n. AreContactsOf (get_or lists (n + k) []) (islands_on islands cut.lower) (islands_on islands cut.upper) (get_or contacts k [])) are.one_each
      (lists_are.exact k cut at)

  pub link_at : (i k : ℕ) → IsLink contacts i k → IsLinkAt i k
  link_at i k l =
      let number = number_of contacts l.list l.listed in
      let one_each = lists_are.one_each in
      let cut = some_item given number.0 (let small = slice_get_within contacts number.0 l.list number.1 in omega arith) in
      let cell = corner_of l.contact.rect in
      let listed = get_or_from_slice_get contacts number.0 l.list [] number.1 in
      let among = subst (λ xs. Contains xs l.contact) (sym listed) l.among in
      let told = (contacts_at number.0 cut.0 cut.1 i k cell.0).0 (record { contact = l.contact; among = among; lower_is = l.lower_is; upper_is = l.upper_is; has = cell.1 }) in
      record { number = number.0; cut = cut.0; at = cut.1; cell = cell.0; cut_has = told.0; lower = told.1; upper = told.2 }

  pub link_from : (k : ℕ) (cut : GivenCut) → slice_get given k ≡ Some cut → (c : Cell) → covers (metals + k) c → (i j : ℕ) → HasLabelled (islands_on islands cut.lower) i c
      → HasLabelled (islands_on islands cut.upper) j c → IsLink contacts i j
  link_from k cut at c has i j lower upper =
      let h = (contacts_at k cut at i j c).1 (has, lower, upper) in
      let one_each = lists_are.one_each in
      let small : k < length contacts = let s = slice_get_within given k cut at in omega arith in
      record { list = get_or contacts k []; contact = h.contact; listed = Contains-get_or contacts k [] small; among = h.among; lower_is = h.lower_is; upper_is = h.upper_is }

  pub links_small : (i k : ℕ) → IsLink contacts i k → (i < count) × (k < count)
  links_small i k l = let a = link_at i k l in (are.below a.cut.lower i a.cell a.lower, are.below a.cut.upper k a.cell a.upper)

  -- ---- islands are parts of what the metals cover, and contact pieces link them

  on_island : (i : ℕ) (p q : Place) → LiesOn i p → LiesOn i q → NetWalk covers cuts p q
  on_island i p q p_on q_on =
      let same = (are.joined p.metal q.metal i i p.half q.half p_on q_on).0 refl in
      subst (λ m. NetWalk covers cuts p (record { metal = m; half = q.half })) same.0 (on_metal covers cuts p.metal p.half q.half same.1)

  -- neighbours on a metal are of one island
  next_same : (m i j : ℕ) (p q : Half) → LiesOn i (record { metal = m; half = p }) → LiesOn j (record { metal = m; half = q }) → Neighbours p q → i ≡ j
  next_same m i j p q p_on q_on n =
      (are.joined m m i j p q p_on q_on).1 (refl, step (lies_on_metal i (record { metal = m; half = p }) p_on) n (stay (lies_on_metal j (record { metal = m; half = q }) q_on)))

  one_island : (i j : ℕ) (p : Place) → LiesOn i p → LiesOn j p → i ≡ j
  one_island i j p p_on q_on = (are.joined p.metal p.metal i j p.half p.half p_on q_on).1 (refl, stay (lies_on_metal i p p_on))

  cuts_join : JoinMetals metals cuts
  cuts_join cut has =
      let number = number_of cuts cut has in
      let source = cut_given metals given number.0 cut number.1 in
      let joined = All-contains (JoinsMetals metals) given source.0 joins (Contains-slice_get given number.0 source.0 source.1) in
      let below = λ (m n : ℕ) (e : m ≡ n) (h : m < metals). subst (λ k. k < metals) e h in
      (below _ _ (ap (λ (x : Cut). x.lower) source.2) joined.lower, below _ _ (ap (λ (x : Cut). x.upper) source.2) joined.upper)

  abbrev Linked : ℕ → ℕ → Type 0
  Linked i k = IsLink contacts i k ⊎ IsLink contacts k i

  abbrev Joint : ℕ → ℕ → Type 0
  Joint = AreJoint (NetStep covers cuts) LiesOn

  -- a step through the cut, up and down
  both_ways : (i k : ℕ) → IsLink contacts i k → Joint i k × Joint k i
  both_ways i k l =
      let a = link_at i k l in
      let half = some_half a.cell in
      let lower : Place = record { metal = a.cut.lower; half = half.0 } in
      let upper : Place = record { metal = a.cut.upper; half = half.0 } in
      let listed = Contains-slice_get cuts a.number (behind metals given a.number a.cut) (cut_listed metals given a.number a.cut a.at) in
      let on : IsOn (covers (metals + a.number)) half.0 = (a.cell, half.1, a.cut_has) in
      let on_lower : LiesOn i lower = (a.cell, half.1, a.lower) in
      let on_upper : LiesOn k upper = (a.cell, half.1, a.upper) in (
        (lower, upper, on_lower, on_upper, inr (through _ listed (inl (refl, refl)) refl on)),
        (upper, lower, on_upper, on_lower, inr (through _ listed (inr (refl, refl)) refl on)),
      )

  joint : (i k : ℕ) → Linked i k → Joint i k
  joint i k (inl l) = (both_ways i k l).0
  joint i k (inr l) = (both_ways k i l).1

  through_cut : (i k : ℕ) (p q : Place) (cut : Cut) → LiesOn i p → LiesOn k q → Contains cuts cut → Joins cut p.metal q.metal → p.half ≡ q.half → IsOn (covers cut.number) p.half → Linked i k
  through_cut i k p q cut (c, lies, h) q_on has joining same on =
      let number = number_of cuts cut has in
      let source = cut_given metals given number.0 cut number.1 in
      let link = link_from number.0 source.0 source.1 c (subst (λ n. covers n c) (sym (ap (λ (x : Cut). x.number) source.2)) (cell_on p.half c lies on)) in
      let lower_is : source.0.lower ≡ cut.lower = ap (λ (x : Cut). x.lower) source.2 in
      let upper_is : source.0.upper ≡ cut.upper = ap (λ (x : Cut). x.upper) source.2 in
      let q_has = cell_on q.half c (subst (λ x. LiesIn x c) same lies) q_on in
      let at = λ (m n j : ℕ) (e : m ≡ n) (g : HasLabelled (islands_on islands n) j c). subst (λ l. HasLabelled (islands_on islands l) j c) (sym e) g in
      elim joining [
        | inl j ↦ inl (link i k (at _ p.metal i (lower_is ∙ j.0) h) (at _ q.metal k (upper_is ∙ j.1) q_has))
        | inr j ↦ inr (link k i (at _ q.metal k (lower_is ∙ j.0) q_has) (at _ p.metal i (upper_is ∙ j.1) h))
      ]

  linked_by : (i k : ℕ) (p q : Place) → LiesOn i p → LiesOn k q → NetStep covers cuts p q → (i ≡ k) ⊎ Linked i k
  linked_by i k p q p_on q_on (along same n) =
      inl (next_same p.metal i k p.half q.half p_on (subst (λ m. LiesOn k (record { metal = m; half = q.half })) (sym same) q_on) n)
  linked_by i k p q p_on q_on (through cut has joining same on) = inr (through_cut i k p q cut p_on q_on has joining same on)

  linked : (i k : ℕ) → Joint i k → (i ≡ k) ⊎ Linked i k
  linked i k (p, q, p_on, q_on, inl same) = inl (one_island i k p p_on (subst (LiesOn k) (sym same) q_on))
  linked i k (p, q, p_on, q_on, inr e) = linked_by i k p q p_on q_on e

  parts : AreLinkedParts (IsOnMetal covers) (NetStep covers cuts) (λ i. i < count) Linked LiesOn
  parts = record {
    is_part = number_small;
    whole = on_island;
    closed = λ i p q p_on e q_on. some_island q (step_keeps metals cuts_join p q e (metal_small p.metal i p_on.0 p_on.2)) q_on;
    joint = joint;
    linked = linked;
  }

  pub walk_from_links : (i k : ℕ) (p q : Place) → LiesOn i p → LiesOn k q → AreLinked count contacts i k → NetWalk covers cuts p q
  walk_from_links = path_from_chain parts

  pub links_from_walk : (i k : ℕ) (p q : Place) → LiesOn i p → LiesOn k q → NetWalk covers cuts p q → AreLinked count contacts i k
  links_from_walk = chain_from_path parts

  -- a walk on a metal keeps to its island
  pub keeps_island : (m i : ℕ) (p q : Half) → LiesOn i (record { metal = m; half = p }) → Walk (IsOn (covers m)) p q → Walk (IsOn (HasLabelled (islands_on islands m) i)) p q
  keeps_island m i p q p_on (stay h) = stay p_on
  keeps_island m i p q p_on (step {b = b} h n w) =
      let found = some_island (record { metal = m; half = b }) (metal_small m i p_on.0 p_on.2) (first w) in
      let same = next_same m i found.0 p b p_on found.1 n in
      step p_on n (keeps_island m i b q (subst (λ j. LiesOn j (record { metal = m; half = b })) (sym same) found.1) w)
