-- the order of cells, and how sorts compare cells
use Rattle.std.proofs.Common.{ℕ, ◌<◌, ◌≤◌, ◌≡◌, ◌↔◌, refl, sym, ap, ◌∙◌, subst, inl, inr, arith, Bool, true, false, ◌&&◌, true≢false, ◌⊎◌, ℤ, ◌<ℤ◌, ◌≤ℤ◌, List, length, get_or, AllPairs, Contains, Some, slice_get, IsTrue, IsSortedByKey, IsPermutation}
use Rattle.lists.proofs.Words.{Called, Contains-dedup, Contains-from_dedup, Contains-permutation, Decides-int_eq, IsEquivalence, IsPermutation-sym, MatchOrdering, Ordering, Less, Equal, Greater, always_returns_same, and_parts, by_lt_z, cases_lt, dedup, int_cmp, int_cmp_total, int_eq, int_ranked, ints, is_lt, on_equiv, and_equiv, slice_get_read, ComputesKey}
use Rattle.std.specs.Cmp.{IsTotalOrder, both_ways}
use Rattle.std.specs.Ordering.{eq_by_cmp, is_eq, ordering_reverse, ordering_then}
use Rattle.std.specs.List.Sorted.{IsPartitionPoint, IsPartitionedBy}
use Rattle.std.proofs.lemmas.Cmp.{int_eq_equiv, on_total, then_total, tied_itself}
use Rattle.std.proofs.lemmas.List.Sorted.{IsPartitionPoint-from_clause}
use Rattle.std.proofs.lemmas.List.Kept.{IsStrictlySortedBy-dedup}
use denote.Param.Members.{Mut}
use denote.Ref.{Bor}
use Rattle.geo_core.specs.declared.plane.Cell.{Cell}
use Rattle.net_numbers.specs.FirstCells.{Precedes}
use Rattle.net_numbers.proofs.ListLaws.{rising, search_ends}

-- ---- which of two cells precedes the other

pub not_itself : (c : Cell) → Precedes c c → ⊥
not_itself c (inl less) = absurd (omega (arith, ints))
not_itself c (inr p) = let less = p.1 in absurd (omega (arith, ints))

pub one_way : (c d : Cell) → Precedes c d → Precedes d c → ⊥
one_way c d (inl less) (inl more) = absurd (omega (arith, ints))
one_way c d (inl less) (inr p) = let e = p.0 in absurd (omega (arith, ints))
one_way c d (inr p) (inl more) = let e = p.0 in absurd (omega (arith, ints))
one_way c d (inr p) (inr q) = let less = p.1 in let more = q.1 in absurd (omega (arith, ints))

-- cells of which neither precedes the other are the same
pub same_cell : (c d : Cell) → (Precedes c d → ⊥) → (Precedes d c → ⊥) → c ≡ d
same_cell c d not_before not_behind =
    let row : c.j ≡ d.j = tied c.j d.j (λ l. not_before (inl l)) (λ l. not_behind (inl l)) in
    let column : c.i ≡ d.i = tied c.i d.i (λ l. not_before (inr (row, l))) (λ l. not_behind (inr (sym row, l))) in
    let make : ℤ → ℤ → Cell = λ i j. record { i = i; j = j } in
    ap (λ i. make i c.j) column ∙ ap (make d.i) row
  where
    tied : (a b : ℤ) → (a <ℤ b → ⊥) → (b <ℤ a → ⊥) → a ≡ b
    tied a b no_less no_more = by_lt_z a b (λ l. absurd (no_less l)) (λ m. by_lt_z b a (λ l. absurd (no_more l)) (λ n. omega (arith, ints)))

-- what a cell precedes is preceded by each cell that lies no higher and no further right
pub precedes_too : (low c d : Cell) → low.j ≤ℤ c.j → low.i ≤ℤ c.i → Precedes c d → Precedes low d
precedes_too low c d row column (inl less) = inl (omega (arith, ints))
precedes_too low c d row column (inr (e, less)) =
    by_lt_z low.j d.j (λ l. inl l) (λ m. inr (omega (arith, ints), omega (arith, ints)))

-- ---- how a sort compares cells

abbrev pub place : Cell → ℤ × ℤ
place c = (c.j, c.i)

abbrev pub place_cmp : ℤ × ℤ → ℤ × ℤ → Ordering
place_cmp x y = ordering_then (int_cmp x.0 y.0) (int_cmp x.1 y.1)

abbrev pub cell_cmp : Cell → Cell → Ordering
cell_cmp c d = place_cmp (place c) (place d)

cell_cmp_total : IsTotalOrder cell_cmp
cell_cmp_total = then_total (on_total (λ (c : Cell). c.j) int_cmp_total) (on_total (λ (c : Cell). c.i) int_cmp_total)

less_cmp : (a b : ℤ) → a <ℤ b → int_cmp a b ≡ Less
less_cmp a b less = by_order (int_cmp a b) (int_ranked a b (int_cmp a b) refl)
  where
    by_order : (r : Ordering) → MatchOrdering r (a <ℤ b) (a ≡ b) (b <ℤ a) → r ≡ Less
    by_order Less m = refl
    by_order Equal m = absurd (omega (arith, ints))
    by_order Greater m = absurd (omega (arith, ints))

same_cmp : (a b : ℤ) → a ≡ b → int_cmp a b ≡ Equal
same_cmp a b e = subst (λ c. int_cmp a c ≡ Equal) e (tied_itself int_cmp_total a)

-- `Less` says that the one cell precedes the other
pub precedes_from_cmp : (c d : Cell) → cell_cmp c d ≡ Less → Precedes c d
precedes_from_cmp c d e = by_parts (int_cmp c.j d.j) (int_cmp c.i d.i) (int_ranked c.j d.j (int_cmp c.j d.j) refl) (int_ranked c.i d.i (int_cmp c.i d.i) refl) e
  where
    by_parts : (r s : Ordering) → MatchOrdering r (c.j <ℤ d.j) (c.j ≡ d.j) (d.j <ℤ c.j) → MatchOrdering s (c.i <ℤ d.i) (c.i ≡ d.i) (d.i <ℤ c.i) → ordering_then r s ≡ Less → Precedes c d
    by_parts Less s m n e = inl m
    by_parts Equal Less m n e = inr (m, n)
    by_parts Equal Equal m n e = cc
    by_parts Equal Greater m n e = cc
    by_parts Greater s m n e = cc

pub cmp_from_precedes : (c d : Cell) → Precedes c d → cell_cmp c d ≡ Less
cmp_from_precedes c d (inl less) = rw (less_cmp c.j d.j less) refl
cmp_from_precedes c d (inr (e, less)) = rw (same_cmp c.j d.j e, less_cmp c.i d.i less) refl

-- ---- cells in order, each once

-- what `==` answers at cells
abbrev pub cell_eq : Cell → Cell → Bool
cell_eq c d = int_eq c.i d.i && int_eq c.j d.j

cell_eq_equiv : IsEquivalence cell_eq
cell_eq_equiv = and_equiv (on_equiv (λ (c : Cell). c.i) int_eq_equiv) (on_equiv (λ (c : Cell). c.j) int_eq_equiv)

equal_cells : (c d : Cell) → cell_eq c d ≡ true → c ≡ d
equal_cells c d e =
    let parts : (int_eq c.i d.i ≡ true) × (int_eq c.j d.j ≡ true) = and_parts (int_eq c.i d.i) (int_eq c.j d.j) e in
    let make : ℤ → ℤ → Cell = λ i j. record { i = i; j = j } in
    ap (λ i. make i c.j) ((Decides-int_eq c.i d.i).0 parts.0) ∙ ap (make d.i) ((Decides-int_eq c.j d.j).0 parts.1)

ties : (c d : Cell) → cell_eq c d ≡ eq_by_cmp cell_cmp c d
ties c d = both_ways (cell_eq c d) (eq_by_cmp cell_cmp c d)
    (λ e. subst (λ x. is_eq (cell_cmp c x) ≡ true) (equal_cells c d e) (ap is_eq (tied_itself cell_cmp_total c)))
    (λ e. subst (λ x. cell_eq c x ≡ true) (tied c d e) (cell_eq_equiv.refl c))
  where
    tied : (c d : Cell) → is_eq (cell_cmp c d) ≡ true → c ≡ d
    tied c d e =
        same_cell c d (λ p. true≢false (sym e ∙ ap is_eq (cmp_from_precedes c d p)))
        (λ p. true≢false (sym e ∙ ap is_eq (cell_cmp_total.antisymm c d ∙ ap ordering_reverse (cmp_from_precedes d c p))))

pub cells_rise : (sorted cells : List Cell) → IsSortedByKey place place_cmp sorted → cells ≡ dedup cell_eq sorted → AllPairs Precedes cells
cells_rise sorted cells up e =
    subst (AllPairs Precedes) (sym e) (rising Precedes cell_cmp precedes_from_cmp (dedup cell_eq sorted) (IsStrictlySortedBy-dedup cell_cmp_total ties sorted up))

-- what a sort by places gives
pub sorted_by_place : {F : Type 0} {g : Mut F (Bor Cell × Unit {0}) (ℤ × ℤ)} {f : F} (cells : List Cell) → ((key : Cell → ℤ × ℤ) → ComputesKey g key f → IsSortedByKey key place_cmp cells)
    → ((a : Bor Cell × Unit {0}) (r : ℤ × ℤ) (f' : F) → Called g f a r f' → (r ≡ place a.0.now) × (f' ≡ f)) → IsSortedByKey place place_cmp cells
sorted_by_place {g = g} {f = f} cells up h = up place (always_returns_same g (λ a r. r ≡ place a.0.now) f h)

pub same_cells : (cells sorted once : List Cell) → IsPermutation cells sorted → once ≡ dedup cell_eq sorted → (c : Cell) → Contains once c ↔ Contains cells c
same_cells cells sorted once moved e c = (
  λ h. Contains-permutation sorted cells c (IsPermutation-sym cells sorted moved) (Contains-from_dedup cell_eq sorted c (subst (λ cs. Contains cs c) e h)),
  λ h. subst (λ cs. Contains cs c) (sym e) (Contains-dedup cell_eq_equiv equal_cells sorted c (Contains-permutation cells sorted c moved h)),
)

-- ---- the place of a cell

module _ (cell : Cell) where
  -- whether a cell precedes this one
  abbrev is_before : Cell → Bool
  is_before other = is_lt (cell_cmp other cell)

  before_true : (other : Cell) → Precedes other cell → is_before other ≡ true
  before_true other p = ap is_lt (cmp_from_precedes other cell p)

  before_tells : (other : Cell) → is_before other ≡ true → Precedes other cell
  before_tells other e = precedes_from_cmp other cell (less (cell_cmp other cell) e)
    where
      less : (r : Ordering) → is_lt r ≡ true → r ≡ Less
      less Less e = refl
      less Equal e = cc
      less Greater e = cc

  -- what answers whether a cell precedes this one, answers as the test does
  answers_before : (other : Cell) (r : Bool) → IsTrue r ↔ Precedes other cell → r ≡ is_before other
  answers_before other r h = both_ways r (is_before other) (λ e. before_true other (h.0 e)) (λ e. h.1 (before_tells other e))

module _ (cells : List Cell) (up : AllPairs Precedes cells) (cell : Cell) where
  -- those that do stand in front
  parted_before : IsPartitionedBy (is_before cell) cells
  parted_before i j d most small e = elim (cases i j most) [
    | inl less ↦ before_true cell (get_or cells i d) (through (get_or cells i d) (get_or cells j d) (up i j d less small) (before_tells cell (get_or cells j d) e))
    | inr same ↦ subst (λ k. is_before cell (get_or cells k d) ≡ true) (sym same) e
  ]
    where
      cases : (i j : ℕ) → i ≤ j → (i < j) ⊎ (i ≡ j)
      cases i j most = elim (cases_lt i j) [ inl less ↦ inl less | inr least ↦ inr (omega arith) ]

      through : (a b : Cell) → Precedes a b → Precedes b cell → Precedes a cell
      through a b p (inl more) = inl (row p)
        where
          row : Precedes a b → a.j <ℤ cell.j
          row (inl less) = omega (arith, ints)
          row (inr (e, less)) = omega (arith, ints)
      through a b (inl less) (inr (f, more)) = inl (omega (arith, ints))
      through a b (inr (e, less)) (inr (f, more)) = inr (e ∙ f, omega (arith, ints))

  found_at : (place : ℕ) → Contains cells cell → place ≤ length cells → IsPartitionPoint (λ y. is_before cell y ≡ true) (λ y. is_before cell y ≡ false) cells place
      → slice_get cells place ≡ Some cell
  found_at place (k, small, at) bound point =
      let here : place ≡ k = search_ends (is_before cell) cells place k cell point bound small
      (λ i less. before_true cell (get_or cells i cell) (subst (Precedes (get_or cells i cell)) at (up i k cell less small)))
      (subst (λ c. is_before cell c ≡ false) (sym at) (ap is_lt (tied_itself cell_cmp_total cell))) in
      subst (λ n. slice_get cells n ≡ Some cell) (sym here) (slice_get_read cells (length cells) k cell refl small (sym at))

  -- where a search for those before the cell ends, there it stands
  pub cell_found : {F : Type 0} {g : Mut F (Bor Cell × Unit {0}) Bool} {f : F} (place : ℕ) → Contains cells cell → place ≤ length cells
      → ((q : Cell → Bool) → ComputesKey g q f → IsPartitionedBy q cells → IsPartitionPoint (λ y. q y ≡ true) (λ y. q y ≡ false) cells place)
      → ((a : Bor Cell × Unit {0}) (r : Bool) (f' : F) → Called g f a r f' → (IsTrue r ↔ Precedes a.0.now cell) × (f' ≡ f)) → slice_get cells place ≡ Some cell
  cell_found place listed bound parted calls =
      found_at place listed bound (IsPartitionPoint-from_clause (is_before cell) cells place parted parted_before
      (λ a r f' k. let answer = calls a r f' k in (answers_before cell a.0.now r answer.0, answer.1)))
