-- terminals of a metal with their islands: cells of its anchors, and groups of its cuts
use Rattle.std.proofs.Common.{ℕ, zero, suc, ◌+◌, ◌<◌, ◌≤◌, ◌≡◌, ◌≢◌, refl, sym, ap, ◌∙◌, subst, List, [], ◌∷◌, ◌++◌, Bool, true, false, Option, Some, None, if◌then◌else◌, zero-add, option_to_list, length, get_or, take, map, filter, arith, inl, inr, ◌⊎◌, ◌↔◌, ◌==◌, All, AllPairs, Contains, slice_get, slice_index_or}
use Rattle.lists.proofs.Words.{flat_map, range_with_len, enumerate_from, length-range_with_len, get_or-range_with_len, length-enumerate_from, get_or-enumerate_from, cases_Bool, cases_lt, Decides-eqb, get_or_past, slice_get-get_or, All-append, All-contains, AllPairs-cons, AllPairs-filter, filter_passes, Contains-append_cases, Contains-append_left, Contains-append_right}
use Rattle.lists.specs.Differing.{AreDifferent}
use Rattle.lists.proofs.Containing.{Contains-head, Contains-none, Contains-one, Contains-slice_get, Contains-tail, all_of_each, number_of}
use Rattle.lists.proofs.Differing.{AllPairs-map, AllPairs-tail, AllPairs-unmap}
use Rattle.lists.proofs.Filtering.{Contains-filter, Contains-filter_passes, Contains-from_filter}
use Rattle.lists.proofs.Mapping.{Contains-flat_map, Contains-flat_map_from, Contains-map, Contains-map_from}
use Rattle.lists.proofs.Numbering.{slice_get-enumerate}
use Rattle.lists.proofs.Reading.{flat_mapped_at}
use Rattle.geo_core.specs.declared.plane.Cell.{Cell}
use Rattle.net_extract.specs.NetFacts.{AreNets}
use Rattle.net_extract.specs.NetLists.{NetLists}
use Rattle.net_extract.specs.Standing.{groups_of, standing_cell, cells_standing, island_of_group, standing_group, groups_standing, clusters_standing, standing_on, terminals_on_island}
use Rattle.net_extract.specs.declared.pieces.Anchor.{Anchor}
use Rattle.net_extract.specs.declared.pieces.ContactGroup.{ContactGroup}
use Rattle.net_extract.specs.declared.metal_terminals.MetalTerminal.{MetalTerminal}
use Rattle.net_extract.specs.declared.metal_terminals.MetalTerminal.TheVariants.{Named, Group}
use Rattle.net_extract.specs.declared.metal_terminals.Standing.{Standing}
use Rattle.net_extract.proofs.MadeLaws.{place_of}
use Rattle.net_extract.proofs.WalkLaws.{got_unnumbered}

-- ---- lists

-- each two items of lists that follow one another
module _ {X : Type 0} (R : X → X → Type 0) where
  AllPairs-append : (xs ys : List X) → AllPairs R xs → AllPairs R ys → ((x y : X) → Contains xs x → Contains ys y → R x y) → AllPairs R (xs ++ ys)
  AllPairs-append [] ys one other across = other
  AllPairs-append (x ∷ xs) ys one other across =
      let behind : All (R x) xs = λ k d small. one zero (suc k) d (omega arith) (omega arith) in
      AllPairs-cons R x (xs ++ ys) (All-append (R x) xs ys behind (all_of_each (R x) ys (λ y h. across x y (Contains-head x xs) h)))
      (AllPairs-append xs ys (AllPairs-tail R x xs one) other (λ a b h. across a b (Contains-tail x xs a h)))

  -- and of the lists that the items of one become
  AllPairs-flat_map : {W : Type 0} (f : W → List X) (ws : List W) → ((w : W) → AllPairs R (f w))
      → AllPairs (λ v w. (x y : X) → Contains (f v) x → Contains (f w) y → R x y) ws → AllPairs R (flat_map f ws)
  AllPairs-flat_map f [] each across = λ i j d before small. absurd (omega arith)
  AllPairs-flat_map {W} f (w ∷ ws) each across =
      let Apart : W → W → Type 0 = λ v w. (x y : X) → Contains (f v) x → Contains (f w) y → R x y in
      let behind : All (Apart w) ws = λ k d small. across zero (suc k) d (omega arith) (omega arith) in
      AllPairs-append (f w) (flat_map f ws) (each w) (AllPairs-flat_map f ws each (AllPairs-tail Apart w ws across))
      (λ x y x_in y_in. let from = Contains-flat_map_from f ws y y_in in All-contains (Apart w) ws from.0 behind from.1 x y x_in from.2)

  -- a list of one item at most has no two
  no_two : (xs : List X) → length xs ≤ 1 → AllPairs R xs
  no_two xs few i j d before small = absurd (omega arith)

-- the numbers up to a number
in_range : (n k : ℕ) → Contains (range_with_len 0 n) k ↔ (k < n)
in_range n k = (
  λ (i, small, is).
      let less : i < n = omega (arith, length-range_with_len 0 n) in
      let at = get_or-range_with_len 0 n i k less in
      omega arith,
  λ less. (k, omega (arith, length-range_with_len 0 n), get_or-range_with_len 0 n k k less ∙ zero-add k),
)

range_rises : (n : ℕ) → AllPairs (λ a b. a < b) (range_with_len 0 n)
range_rises n i j d before small =
    let far : j < n = omega (arith, length-range_with_len 0 n) in
    let near : i < n = omega arith in
    let one = get_or-range_with_len 0 n i d near in
    let other = get_or-range_with_len 0 n j d far in
    omega arith

range_at : (n k : ℕ) → k < n → slice_get (range_with_len 0 n) k ≡ Some k
range_at n k less =
    let small : k < length (range_with_len 0 n) = omega (arith, length-range_with_len 0 n) in
    slice_get-get_or (range_with_len 0 n) k 0 small ∙ ap Some (get_or-range_with_len 0 n k 0 less ∙ zero-add k)

-- an item with its number
module _ {X : Type 0} (xs : List X) where
  numbered_at : (k : ℕ) (x : X) → slice_get xs k ≡ Some x → slice_get (enumerate_from 0 xs) k ≡ Some (k, x)
  numbered_at k x at = slice_get-enumerate 0 xs k x at ∙ ap (λ n. Some (n, x)) (zero-add k)

  from_numbered : (one : ℕ × X) → Contains (enumerate_from 0 xs) one → slice_get xs one.0 ≡ Some one.1
  from_numbered one among =
      let number = number_of (enumerate_from 0 xs) one among in
      let got = got_unnumbered 0 xs number.0 one number.1 in
      subst (λ n. slice_get xs n ≡ Some one.1) (sym (got.1 ∙ zero-add number.0)) got.0

  numbers_rise : AllPairs (λ (a : ℕ × X) (b : ℕ × X). a.0 < b.0) (enumerate_from 0 xs)
  numbers_rise i j d before small =
      let far : j < length xs = omega (arith, length-enumerate_from 0 xs) in
      let near : i < length xs = omega arith in
      let one = ap (λ (p : ℕ × X). p.0) (get_or-enumerate_from 0 xs i d near) in
      let other = ap (λ (p : ℕ × X). p.0) (get_or-enumerate_from 0 xs j d far) in
      omega arith

module _ {X : Type 0} where
  in_option : (o : Option X) (x : X) → Contains (option_to_list o) x → o ≡ Some x
  in_option None x h = absurd (Contains-none h)
  in_option (Some y) x h = ap Some (Contains-one y x h)

  of_option : (o : Option X) (x : X) → o ≡ Some x → Contains (option_to_list o) x
  of_option o x e = subst (λ p. Contains (option_to_list p) x) (sym e) (Contains-head x [])

one_at_most : {X Y : Type 0} (f : X → Y) (o : Option X) → length (map f (option_to_list o)) ≤ 1
one_at_most f None = omega arith
one_at_most f (Some x) = omega arith

-- ---- terminals, and what they are

-- the terminal is the cell of an anchor of the metal
pub record IsCellStanding (nets : NetLists) (metal : ℕ) (standing : Standing) : Type 0 where
  pub anchor : Anchor
  pub among : Contains nets.anchors anchor
  pub on_metal : anchor.metal ≡ metal
  pub is : standing ≡ standing_cell anchor

-- the terminal is a group, which carries its island of the metal
pub record IsGroupStanding (nets : NetLists) (groups : List (List ContactGroup)) (metal : ℕ) (standing : Standing) : Type 0 where
  pub cut : ℕ
  pub number : ℕ
  pub group : ContactGroup
  pub flag : nets.clusters_are_terminals ≡ true
  pub within : cut < length groups
  pub at : slice_get (groups_of groups cut) number ≡ Some group
  pub carries : island_of_group metal (slice_index_or nets.ends cut (0, 0)) group ≡ Some standing.island
  pub is : standing.terminal ≡ Group cut number

-- a group as a terminal on an island
abbrev pub placed : ℕ → ℕ → ℕ → Standing
placed cut number island = record { island = island; terminal = Group cut number }

abbrev on_island_of : ℕ → MetalTerminal → Standing
on_island_of island terminal = record { island = island; terminal = terminal }

-- they are different terminals
abbrev IsApart : Standing → Standing → Type 0
IsApart a b = a.terminal ≢ b.terminal

-- the groups of one cut
module _ (metal : ℕ) (ends : ℕ × ℕ) (cut : ℕ) (groups : List ContactGroup) where
  record IsOfCut (standing : Standing) : Type 0 where
    number : ℕ
    group : ContactGroup
    at : slice_get groups number ≡ Some group
    carries : island_of_group metal ends group ≡ Some standing.island
    is : standing.terminal ≡ Group cut number

  of_group : (numbered : ℕ × ContactGroup) (standing : Standing) → Contains (standing_group metal ends cut numbered) standing
      → (island_of_group metal ends numbered.1 ≡ Some standing.island) × (standing.terminal ≡ Group cut numbered.0)
  of_group numbered standing among =
      let found = island_of_group metal ends numbered.1 in
      let from = Contains-map_from (placed cut numbered.0) (option_to_list found) standing among in (
        in_option found from.0 from.1 ∙ ap (λ (s : Standing). Some s.island) from.2,
        sym (ap (λ (s : Standing). s.terminal) from.2),
      )

  of_cut : (standing : Standing) → Contains (groups_standing metal ends cut groups) standing → IsOfCut standing
  of_cut standing among =
      let from = Contains-flat_map_from (standing_group metal ends cut) (enumerate_from 0 groups) standing among in
      let told = of_group from.0 standing from.2 in
      record { number = from.0.0; group = from.0.1; at = from_numbered groups from.0 from.1; carries = told.0; is = told.1 }

  in_cut : (number : ℕ) (group : ContactGroup) (island : ℕ) → slice_get groups number ≡ Some group → island_of_group metal ends group ≡ Some island
      → Contains (groups_standing metal ends cut groups) (placed cut number island)
  in_cut number group island at carries =
      let found = island_of_group metal ends group in
      let pair : ℕ → ContactGroup → ℕ × ContactGroup = λ n g. (n, g) in
      Contains-flat_map (standing_group metal ends cut) (enumerate_from 0 groups) (pair number group) (placed cut number island)
      (Contains-slice_get (enumerate_from 0 groups) number (pair number group) (numbered_at groups number group at))
      (Contains-map (placed cut number) (option_to_list found) island (of_option found island carries))

  -- different groups are different terminals
  groups_differ : AllPairs IsApart (groups_standing metal ends cut groups)
  groups_differ =
      AllPairs-flat_map IsApart (standing_group metal ends cut) (enumerate_from 0 groups)
      (λ one. no_two IsApart (standing_group metal ends cut one) (one_at_most (placed cut one.0) (island_of_group metal ends one.1)))
      (λ i j d before small a b a_in b_in same.
      let less = numbers_rise groups i j d before small in
      let one = (of_group (get_or (enumerate_from 0 groups) i d) a a_in).1 in
      let other = (of_group (get_or (enumerate_from 0 groups) j d) b b_in).1 in
      let alike : (get_or (enumerate_from 0 groups) i d).0 ≡ (get_or (enumerate_from 0 groups) j d).0 = cc (one, other, same) in
      omega arith)

  -- ---- one group after another

  abbrev pub first_groups : ℕ → List Standing
  first_groups k = flat_map (standing_group metal ends cut) (take k (enumerate_from 0 groups))

  pub group_more : (k : ℕ) (group : ContactGroup) (found : Option ℕ) → slice_get groups k ≡ Some group → found ≡ island_of_group metal ends group
      → first_groups k ++ map (placed cut k) (option_to_list found) ≡ first_groups (k + 1)
  group_more k group found at e =
      ap (λ o. first_groups k ++ map (placed cut k) (option_to_list o)) e
      ∙ flat_mapped_at (standing_group metal ends cut) (enumerate_from 0 groups) k (k, group) (numbered_at groups k group at)

-- ---- one cut after another

module _ (ends : List (ℕ × ℕ)) (groups : List (List ContactGroup)) (metal : ℕ) where
  abbrev pub groups_at : ℕ → List Standing
  groups_at cut = groups_standing metal (slice_index_or ends cut (0, 0)) cut (groups_of groups cut)

  abbrev pub first_clusters : ℕ → List Standing
  first_clusters k = flat_map groups_at (take k (range_with_len 0 (length groups)))

  pub cluster_more : (k : ℕ) → k < length groups → first_clusters k ++ groups_at k ≡ first_clusters (k + 1)
  cluster_more k less = flat_mapped_at groups_at (range_with_len 0 (length groups)) k k (range_at (length groups) k less)

-- ---- all terminals of a metal

module _ (nets : NetLists) (groups : List (List ContactGroup)) (metal : ℕ) where
  abbrev on_metal : Anchor → Bool
  on_metal anchor = anchor.metal == metal

  abbrev cells : List Standing
  cells = cells_standing nets.anchors metal

  abbrev clusters_if : Bool → List Standing
  clusters_if flag = if flag then clusters_standing nets.ends groups metal else []

  cell_of : (standing : Standing) → Contains cells standing → IsCellStanding nets metal standing
  cell_of standing among =
      let from = Contains-map_from standing_cell (filter on_metal nets.anchors) standing among in
      record {
        anchor = from.0;
        among = Contains-from_filter on_metal nets.anchors from.0 from.1;
        on_metal = (Decides-eqb from.0.metal metal).0 (Contains-filter_passes on_metal nets.anchors from.0 from.1);
        is = sym from.2;
      }

  with_flag : (standing : Standing) → Contains (clusters_if nets.clusters_are_terminals) standing
      → (nets.clusters_are_terminals ≡ true) × Contains (clusters_standing nets.ends groups metal) standing
  with_flag standing among = elim (cases_Bool nets.clusters_are_terminals) [
    | inl said ↦ (said, subst (λ flag. Contains (clusters_if flag) standing) said among)
    | inr unsaid ↦ absurd (Contains-none (subst (λ flag. Contains (clusters_if flag) standing) unsaid among))
  ]

  cluster_of : (standing : Standing) → Contains (clusters_if nets.clusters_are_terminals) standing → IsGroupStanding nets groups metal standing
  cluster_of standing among =
      let told = with_flag standing among in
      let from = Contains-flat_map_from (groups_at nets.ends groups metal) (range_with_len 0 (length groups)) standing told.1 in
      let is = of_cut metal (slice_index_or nets.ends from.0 (0, 0)) from.0 (groups_of groups from.0) standing from.2 in
      record {
        cut = from.0;
        number = is.number;
        group = is.group;
        flag = told.0;
        within = (in_range (length groups) from.0).0 from.1;
        at = is.at;
        carries = is.carries;
        is = is.is;
      }

  -- a terminal is a cell or a group
  pub standing_cases : (standing : Standing) → Contains (standing_on nets groups metal) standing → IsCellStanding nets metal standing ⊎ IsGroupStanding nets groups metal standing
  standing_cases standing among = elim (Contains-append_cases cells (clusters_if nets.clusters_are_terminals) standing among) [
    | inl cell ↦ inl (cell_of standing cell)
    | inr cluster ↦ inr (cluster_of standing cluster)
  ]

  -- the cell of each anchor of the metal is one
  pub cell_stands : (anchor : Anchor) → Contains nets.anchors anchor → anchor.metal ≡ metal → Contains (standing_on nets groups metal) (standing_cell anchor)
  cell_stands anchor among here =
      let kept = Contains-filter on_metal nets.anchors anchor among ((Decides-eqb anchor.metal metal).1 here) in
      Contains-append_left cells (clusters_if nets.clusters_are_terminals) (standing_cell anchor) (Contains-map standing_cell (filter on_metal nets.anchors) anchor kept)

  -- what has a group is a cut
  cut_small : (cut number : ℕ) (group : ContactGroup) → slice_get (groups_of groups cut) number ≡ Some group → cut < length groups
  cut_small cut number group at = elim (cases_lt cut (length groups)) [
    | inl less ↦ less
    | inr past ↦ let none = subst (λ gs. slice_get gs number ≡ Some group) (get_or_past groups cut [] past) at in cc none
  ]

  -- so is each group that carries an island of the metal
  pub group_stands : (cut number : ℕ) (group : ContactGroup) (island : ℕ) → nets.clusters_are_terminals ≡ true → slice_get (groups_of groups cut) number ≡ Some group
      → island_of_group metal (slice_index_or nets.ends cut (0, 0)) group ≡ Some island
      → Contains (standing_on nets groups metal) (record { island = island; terminal = Group cut number })
  group_stands cut number group island flag at carries =
      let here = in_cut metal (slice_index_or nets.ends cut (0, 0)) cut (groups_of groups cut) number group island at carries in
      let listed = Contains-flat_map (groups_at nets.ends groups metal) (range_with_len 0 (length groups)) cut (placed cut number island) ((in_range (length groups) cut).1 (cut_small cut number group at)) here in
      Contains-append_right cells (clusters_if nets.clusters_are_terminals) (placed cut number island)
      (subst (λ b. Contains (clusters_if b) (placed cut number island)) (sym flag) listed)

  -- ---- different terminals

  cells_differ : AreNets nets → AllPairs IsApart cells
  cells_differ are =
      let here = filter on_metal nets.anchors in
      let apart = AllPairs-filter (λ a b. place_of a ≢ place_of b) on_metal nets.anchors (AllPairs-unmap (λ p q. p ≢ q) place_of nets.anchors are.anchors_differ) in
      AllPairs-map IsApart standing_cell here (λ i j d before small same.
      let one = get_or here i d in
      let other = get_or here j d in
      let earlier : i < length here = omega arith in
      let on : (k : ℕ) → k < length here → (get_or here k d).metal ≡ metal = λ k less. (Decides-eqb (get_or here k d).metal metal).0 (filter_passes on_metal nets.anchors k d less) in
      let pair : ℕ → Cell → ℕ × Cell = λ m c. (m, c) in
      let alike : one.cell ≡ other.cell = cc same in
      apart i j d before small (ap (λ m. pair m one.cell) (on i earlier ∙ sym (on j small)) ∙ ap (pair other.metal) alike))

  clusters_differ : AllPairs IsApart (clusters_standing nets.ends groups metal)
  clusters_differ =
      AllPairs-flat_map IsApart (groups_at nets.ends groups metal) (range_with_len 0 (length groups))
      (λ cut. groups_differ metal (slice_index_or nets.ends cut (0, 0)) cut (groups_of groups cut))
      (λ i j d before small a b a_in b_in same.
      let less = range_rises (length groups) i j d before small in
      let m = get_or (range_with_len 0 (length groups)) i d in
      let n = get_or (range_with_len 0 (length groups)) j d in
      let one = of_cut metal (slice_index_or nets.ends m (0, 0)) m (groups_of groups m) a a_in in
      let other = of_cut metal (slice_index_or nets.ends n (0, 0)) n (groups_of groups n) b b_in in
      let alike : m ≡ n = cc (one.is, other.is, same) in
      omega arith)

  clusters_if_differ : (flag : Bool) → AllPairs IsApart (clusters_if flag)
  clusters_if_differ true = clusters_differ
  clusters_if_differ false = λ i j d before small. absurd (omega arith)

  all_differ : AreNets nets → AllPairs IsApart (standing_on nets groups metal)
  all_differ are =
      AllPairs-append IsApart cells (clusters_if nets.clusters_are_terminals) (cells_differ are)
      (clusters_if_differ nets.clusters_are_terminals)
      (λ a b a_in b_in same.
      let one = cell_of a a_in in
      let other = cluster_of b b_in in
      let cell : a.terminal ≡ Named one.anchor.cell = ap (λ (s : Standing). s.terminal) one.is in
      let group = other.is in
      cc (cell, group, same))

  -- ---- the terminals of one island

  pub on_island : (terminal : MetalTerminal) (island : ℕ) → Contains (terminals_on_island nets groups metal island) terminal
      ↔ Contains (standing_on nets groups metal) (record { island = island; terminal = terminal })
  on_island terminal island =
      let all = standing_on nets groups metal in
      let here = λ (standing : Standing). standing.island == island in
      let terminal_of = λ (standing : Standing). standing.terminal in (
        λ among.
            let from = Contains-map_from terminal_of (filter here all) terminal among in
            let on = (Decides-eqb from.0.island island).0 (Contains-filter_passes here all from.0 from.1) in
            let same : from.0 ≡ on_island_of island terminal = ap (λ i. on_island_of i from.0.terminal) on ∙ ap (on_island_of island) from.2 in
            subst (Contains all) same (Contains-from_filter here all from.0 from.1),
        λ among. Contains-map terminal_of (filter here all) (on_island_of island terminal)
            (Contains-filter here all (on_island_of island terminal) among ((Decides-eqb island island).1 refl)),
      )

  pub terminals_differ : AreNets nets → (island : ℕ) → AreDifferent (terminals_on_island nets groups metal island)
  terminals_differ are island =
      let here = λ (standing : Standing). standing.island == island in
      AllPairs-map (λ s t. s ≢ t) (λ (standing : Standing). standing.terminal) (filter here (standing_on nets groups metal))
      (AllPairs-filter IsApart here (standing_on nets groups metal) (all_differ are))
