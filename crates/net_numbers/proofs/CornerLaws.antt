-- the first cell of each label, from the lower left cells of all pieces
use Rattle.std.proofs.Common.{ℕ, ◌+◌, ◌<◌, ◌≡◌, ◌==◌, refl, sym, ap, ◌∙◌, subst, arith, Bool, true, false, true≢false, ℤ, List, map, get_or, AllPairs, Any, Contains, Some, slice_get, IsSortedByKey, IsPermutation, nat_cmp}
use Rattle.lists.proofs.Words.{Called, ComputesKey, Contains-from_dedup, Contains-permutation, IsPermutation-sym, MatchOrdering, Ordering, Less, Equal, Greater, always_returns_same, dedup, eq-eqb, eqb-true, int_cmp, int_cmp_total, ints, is_lt, nat_tests, ranks_by, sorted_far}
use Rattle.lists.proofs.Containing.{all_of_each, number_of}
use Rattle.lists.proofs.Mapping.{Contains-map, Contains-map_from}
use Rattle.std.specs.Cmp.{IsTotalOrder}
use Rattle.std.specs.Ordering.{eq_by_cmp, ordering_then}
use Rattle.std.proofs.lemmas.Cmp.{nat_cmp_total, on_total, ranked, then_total, tied_itself}
use Rattle.std.proofs.lemmas.List.Kept.{IsStrictlySortedBy-dedup}
use denote.Param.Members.{Mut}
use denote.Ref.{Bor}
use Rattle.geo_core.specs.Plane.{Has}
use Rattle.geo_core.specs.declared.plane.Cell.{Cell}
use Rattle.geo_core.specs.declared.plane.Labelled.{Labelled}
use Rattle.net_numbers.specs.FirstCells.{IsFirstCell, IsLabelCell, Precedes}
use Rattle.net_numbers.specs.inside.Corners.{AreFirstCorners, corner_of}
use Rattle.net_numbers.specs.declared.corners.Corner.{Corner}
use Rattle.net_numbers.proofs.ListLaws.{dedup_keeps_first, one_place, rising}
use Rattle.net_numbers.proofs.OrderLaws.{cmp_from_precedes, not_itself, precedes_too}

-- ---- how a sort compares corners

abbrev pub key_of : Corner → ℕ × ℤ × ℤ
key_of corner = (corner.label, corner.cell.j, corner.cell.i)

abbrev pub key_cmp : ℕ × ℤ × ℤ → ℕ × ℤ × ℤ → Ordering
key_cmp x y = ordering_then (ordering_then (nat_cmp x.0 y.0) (int_cmp x.1 y.1)) (int_cmp x.2 y.2)

key_total : IsTotalOrder key_cmp
key_total =
    then_total (then_total (on_total (λ (x : ℕ × ℤ × ℤ). x.0) nat_cmp_total) (on_total (λ (x : ℕ × ℤ × ℤ). x.1) int_cmp_total))
    (on_total (λ (x : ℕ × ℤ × ℤ). x.2) int_cmp_total)

-- corners of one label, of which the one has the preceding cell
abbrev pub ComesBefore : Corner → Corner → Type 0
ComesBefore a b = (a.label ≡ b.label) × Precedes a.cell b.cell

abbrev pub same_label : Corner → Corner → Bool
same_label a b = a.label == b.label

before_is_less : (a b : Corner) → ComesBefore a b → is_lt (key_cmp (key_of a) (key_of b)) ≡ true
before_is_less a b (e, before) =
    let same : nat_cmp a.label b.label ≡ Equal = subst (λ n. nat_cmp a.label n ≡ Equal) e (tied_itself nat_cmp_total a.label) in
    rw same (ap is_lt (cmp_from_precedes a.cell b.cell before))

-- a corner that is no less has no lesser label
label_no_less : (a b : Corner) → is_lt (key_cmp (key_of a) (key_of b)) ≡ false → is_lt (nat_cmp a.label b.label) ≡ false
label_no_less a b e = by_label (nat_cmp a.label b.label) e
  where
    by_label : (r : Ordering) → is_lt (ordering_then (ordering_then r (int_cmp a.cell.j b.cell.j)) (int_cmp a.cell.i b.cell.i)) ≡ false → is_lt r ≡ false
    by_label Less e = e
    by_label Equal e = refl
    by_label Greater e = refl

label_ties : (a b : Corner) → same_label a b ≡ eq_by_cmp (λ x y. nat_cmp x.label y.label) a b
label_ties a b = grind (arith, nat_tests)

label_less : (a b : Corner) → nat_cmp a.label b.label ≡ Less → a.label < b.label
label_less a b e = by_order (nat_cmp a.label b.label) (ranked a.label b.label (nat_cmp a.label b.label) refl) e
  where
    by_order : (r : Ordering) → MatchOrdering r (a.label < b.label) (a.label ≡ b.label) (b.label < a.label) → r ≡ Less → a.label < b.label
    by_order Less m e = m
    by_order Equal m e = cc
    by_order Greater m e = cc

-- ---- corners in order, the first of each label

module _ (sorted : List Corner) (up : IsSortedByKey key_of key_cmp sorted) where
  -- no corner comes before one that stands in front of it
  in_order : AllPairs (λ a b. ComesBefore b a → ⊥) sorted
  in_order i j d less small before =
      true≢false (sym (before_is_less (get_or sorted j d) (get_or sorted i d) before)
      ∙ sorted_far (λ x y. is_lt (key_cmp (key_of x) (key_of y))) (ranks_by key_total key_of) sorted up i j d (omega arith) small)

  labels_rise : AllPairs (λ (a b : Corner). a.label < b.label) (dedup same_label sorted)
  labels_rise =
      rising (λ a b. a.label < b.label) (λ x y. nat_cmp x.label y.label) label_less (dedup same_label sorted)
      (IsStrictlySortedBy-dedup (on_total (λ (c : Corner). c.label) nat_cmp_total) label_ties sorted
      (λ k d low high. label_no_less (get_or sorted (k + 1) d) (get_or sorted k d) (up k d low high)))

  -- for each corner one is kept that has its label and no later cell
  kept_for : (corner : Corner) → Contains sorted corner → (kept : Corner) × Contains (dedup same_label sorted) kept × (kept.label ≡ corner.label) × (Precedes corner.cell kept.cell → ⊥)
  kept_for corner c =
      let (k, kept, small, at, (same, first)) = dedup_keeps_first same_label ComesBefore (λ x. eq-eqb x.label x.label refl) (λ x before. not_itself x.cell before.1) sorted in_order corner c in
      let e : corner.label ≡ kept.label = eqb-true corner.label kept.label same in
      (kept, (k, small, at), sym e, λ before. first (e, before))

-- two corners in the order of their labels that have one label are the same
one_corner : (corners : List Corner) → AllPairs (λ (a b : Corner). a.label < b.label) corners → (a b : Corner) → Contains corners a → Contains corners b → a.label ≡ b.label → a ≡ b
one_corner corners by_label a b has_a has_b e =
    let (i, at_i) = number_of corners a has_a in
    let (k, at_k) = number_of corners b has_b in
    let here : i ≡ k = one_place (λ x y. x.label < y.label) corners by_label i k a b at_i at_k (λ less. omega arith) (λ less. omega arith) in
    let both : Some a ≡ Some b = sym at_i ∙ ap (slice_get corners) here ∙ at_k in
    cc

-- ---- pieces and their corners

lower_left : (piece : Labelled) → Has piece.rect (corner_of piece).cell
lower_left piece =
    let across = piece.rect.across.some in
    let up = piece.rect.up.some in
    record { across = record { from = omega (arith, ints); before = across }; up = record { from = omega (arith, ints); before = up } }

module _ (pieces : List Labelled) (corners sorted : List Corner) (all : corners ≡ map corner_of pieces) (moved : IsPermutation corners sorted) (up : IsSortedByKey key_of key_cmp sorted) where
  sorted_has : (piece : Labelled) → Contains pieces piece → Contains sorted (corner_of piece)
  sorted_has piece c = Contains-permutation corners sorted (corner_of piece) moved (subst (λ cs. Contains cs (corner_of piece)) (sym all) (Contains-map corner_of pieces piece c))

  from_piece : (corner : Corner) → Contains (dedup same_label sorted) corner → (piece : Labelled) × Contains pieces piece × (corner_of piece ≡ corner)
  from_piece corner c =
      Contains-map_from corner_of pieces corner (subst (λ cs. Contains cs corner) all
      (Contains-permutation sorted corners corner (IsPermutation-sym corners sorted moved) (Contains-from_dedup same_label sorted corner c)))

  -- no cell of a label precedes the one that is kept for it
  none_precedes : (kept : Corner) → Contains (dedup same_label sorted) kept → (d : Cell) → IsLabelCell pieces kept.label d → Precedes d kept.cell → ⊥
  none_precedes kept c d h before =
      let corner : Corner = corner_of h.piece in
      let (other, has_other, label_is, first) = kept_for sorted up corner (sorted_has h.piece h.among) in
      let same : other ≡ kept = one_corner (dedup same_label sorted) (labels_rise sorted up) other kept has_other c (label_is ∙ h.carries) in
      first (subst (λ x. Precedes corner.cell x.cell) (sym same) (precedes_too corner.cell d kept.cell h.has.up.from h.has.across.from before))

  kept_is_first : (kept : Corner) → Contains (dedup same_label sorted) kept → IsFirstCell pieces kept.label kept.cell
  kept_is_first kept c =
      let (piece, among, is) = from_piece kept c in
      record {
        has = record { piece = piece; among = among; carries = ap (λ x. x.label) is; has = subst (λ x. Has piece.rect x.cell) is (lower_left piece) };
        first = none_precedes kept c;
      }

  pub kept_corners : (kept : List Corner) → kept ≡ dedup same_label sorted → AreFirstCorners pieces kept
  kept_corners kept e = subst (AreFirstCorners pieces) (sym e) (record {
    by_label = labels_rise sorted up;
    first = all_of_each (λ corner. IsFirstCell pieces corner.label corner.cell) (dedup same_label sorted) kept_is_first;
    all = all_of_each (λ piece. Any (λ corner. corner.label ≡ piece.label) (dedup same_label sorted)) pieces (λ piece among.
        let (corner, (k, small, at), label_is, first) = kept_for sorted up (corner_of piece) (sorted_has piece among) in
        (k, corner, small, at, label_is));
  })

-- what a sort by these keys gives
pub sorted_by_key : {F : Type 0} {g : Mut F (Bor Corner × Unit {0}) (ℕ × ℤ × ℤ)} {f : F} (corners : List Corner) → ((key : Corner → ℕ × ℤ × ℤ) → ComputesKey g key f → IsSortedByKey key key_cmp corners)
    → ((a : Bor Corner × Unit {0}) (r : ℕ × ℤ × ℤ) (f' : F) → Called g f a r f' → (r ≡ key_of a.0.now) × (f' ≡ f)) → IsSortedByKey key_of key_cmp corners
sorted_by_key {g = g} {f = f} corners up h = up key_of (always_returns_same g (λ a r. r ≡ key_of a.0.now) f h)
