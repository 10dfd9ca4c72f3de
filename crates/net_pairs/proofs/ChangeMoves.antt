-- changes that are weighed, moved down and put in another order, and slabs that are given weights
use Rattle.std.proofs.Common.{ℕ, ℤ, pos, negsuc, Bool, List, [], ◌∷◌, ◌++◌, ◌+◌, ◌*◌, ◌<◌, ◌≤◌, ◌+ℤ◌, ◌-ℤ◌, ◌<ℤ◌, ◌≤ℤ◌, ◌≡◌, ◌∙◌, ◌⊎◌, ◌↔◌, refl, sym, ap, subst, cond, if◌then◌else◌, true, false, inl, inr, arith, All, length, drop, get_or, set, take, take_all, map, unsigned_abs, ◌&&◌, ◌==◌}
use Rattle.lists.proofs.Words.{append-nil, drop_all, All-contains, All-cons, All-head, All-nil, All-tail, IsPermutation, IsPermutation-sym, Contains-permutation, cases_Bool, eqb_tells, false≢true, ints, sum_by-IsPermutation, sum_by-cons, sum_by_push}
use Rattle.std.proofs.lemmas.List.Edits.{map_over_more}
use Rattle.lists.proofs.Containing.{all_of_each}
use Rattle.lists.proofs.Reading.{put_back, taken_more}
use Rattle.geo_core.specs.Plane.{Has, IsIn}
use Rattle.geo_core.specs.declared.plane.Cell.{Cell}
use Rattle.geo_core.specs.declared.plane.Labelled.{Labelled}
use Rattle.geo_core.specs.declared.plane.Rect.{Rect}
use Rattle.geo_core.proofs.RectLaws.{same_cell}
use Rattle.fault_model.specs.FaultNames.{or_zero}
use Rattle.skyline_runs.specs.Depths.{has_cell}
use Rattle.skyline_runs.proofs.laws.DepthLaws.{has_from, has_so}
use Rattle.net_pairs.specs.declared.weighted.Weighted.{Weighted}
use Rattle.net_pairs.specs.inside.RowChanges.{CoverAlike, IsChangeIn, below, count_in, weight_at}
use Rattle.net_pairs.specs.inside.Dense.{AreLowered, AreSlabsOf, AreWeighed, GainsLower, IsOneLower, rows_up, weighed_in}
use Rattle.net_pairs.specs.inside.Meetings.{counted_once}
use Rattle.net_pairs.specs.inside.SameRests.{HaveOneRest}
use Rattle.net_pairs.proofs.CommonWeights.{weight_if}
use Rattle.net_pairs.proofs.RestLaws.{rest_added, rest_equal, rest_trans, rest_wrapped_product}

-- ---- a rectangle and a cell

module _ (label : ℕ) (c : Cell) where
  weighs_or_not : (x : Weighted) → ((x.label ≡ label) × Has x.rect c × (weight_if label c x ≡ x.weight)) ⊎ (((x.label ≡ label) × Has x.rect c → ⊥) × (weight_if label c x ≡ 0))
  weighs_or_not x = elim (eqb_tells x.label label) [
    | inl h ↦ elim (cases_Bool (has_cell c x.rect)) [
      | inl t ↦ inl (h.1, has_from c x.rect t, rw (h.0, t) refl)
      | inr t ↦ inr (λ k. false≢true (sym t ∙ has_so c x.rect k.1), rw (h.0, t) refl)
    ]
    | inr h ↦ inr (λ k. h.1 k.0, rw h.0 refl)
  ]

  weighs : (x : Weighted) → x.label ≡ label → Has x.rect c → weight_if label c x ≡ x.weight
  weighs x e h = elim (weighs_or_not x) [ inl k ↦ k.2 | inr k ↦ absurd (k.0 (e, h)) ]

  weighs_nothing : (x : Weighted) → ((x.label ≡ label) × Has x.rect c → ⊥) → weight_if label c x ≡ 0
  weighs_nothing x never = elim (weighs_or_not x) [ inl k ↦ absurd (never (k.0, k.1)) | inr k ↦ k.1 ]

-- ---- changes that are weighed

abs_is : (z : ℤ) → pos 0 ≤ℤ z → unsigned_abs z ≡ or_zero z
abs_is (pos n) h = refl
abs_is (negsuc n) h = absurd (omega (arith, ints))

module _ (window : Rect) where
  still_change : (x : Weighted) → IsChangeIn window x → IsChangeIn window (weighed_in window x)
  still_change x is = record { level = is.level; within = is.within }

  -- its row is the cell's
  rows_are : (x : Weighted) (c : Cell) → IsChangeIn window x → Has x.rect c → unsigned_abs (window.y1 -ℤ x.rect.y0) ≡ rows_up window c
  rows_are x c is h =
      let l = is.level in
      let a = h.up.from in
      let b = h.up.before in
      let w = (is.within c h).up.before in
      let e : c.j ≡ x.rect.y0 = omega (arith, ints) in
      rw e (abs_is (window.y1 -ℤ x.rect.y0) (omega (arith, ints)))

  weighed_one : (x : Weighted) → IsChangeIn window x → (label : ℕ) (c : Cell) → HaveOneRest (weight_if label c (weighed_in window x)) (rows_up window c * weight_if label c x)
  weighed_one x is label c = elim (weighs_or_not label c x) [
    | inl h ↦
        let here = weighs label c (weighed_in window x) h.0 h.1 in
        rest_trans (rest_equal here) (rest_trans (rest_wrapped_product x.weight (unsigned_abs (window.y1 -ℤ x.rect.y0)))
        (rest_equal (turned _ _ _ _ (rows_are x c is h.1) h.2)))
    | inr h ↦ rest_equal (weighs_nothing label c (weighed_in window x) h.0 ∙ nothing _ _ h.1)
  ] where
    turned : (w u r v : ℕ) → u ≡ r → v ≡ w → w * u ≡ r * v
    turned w u r v e f = rw (e, f) (omega arith)

    nothing : (r v : ℕ) → v ≡ 0 → 0 ≡ r * v
    nothing r v e = rw e (omega arith)

  weighed_all : (xs : List Weighted) → All (IsChangeIn window) xs → (label : ℕ) (c : Cell) → HaveOneRest (weight_at (map (weighed_in window) xs) label c) (rows_up window c * weight_at xs label c)
  weighed_all [] all label c = rest_equal (omega arith)
  weighed_all (x ∷ xs) all label c =
      let one = weighed_one x (All-head (IsChangeIn window) x xs all) label c in
      let rest = weighed_all xs (All-tail (IsChangeIn window) x xs all) label c in
      let whole : rows_up window c * weight_if label c x + rows_up window c * weight_at xs label c ≡ rows_up window c * weight_at (x ∷ xs) label c =
      rw (sum_by-cons (weight_if label c) x xs) (omega arith) in
      rest_trans (rest_equal (sum_by-cons (weight_if label c) (weighed_in window x) (map (weighed_in window) xs))) (rest_trans (rest_added one rest) (rest_equal whole))

  still_changes : (xs : List Weighted) → All (IsChangeIn window) xs → All (IsChangeIn window) (map (weighed_in window) xs)
  still_changes [] all = All-nil (IsChangeIn window)
  still_changes (x ∷ xs) all =
      All-cons (IsChangeIn window) (weighed_in window x) (map (weighed_in window) xs) (still_change x (All-head (IsChangeIn window) x xs all)) (still_changes xs (All-tail (IsChangeIn window) x xs all))

  all_weighed : (xs ys : List Weighted) → All (IsChangeIn window) xs → ys ≡ map (weighed_in window) xs → AreWeighed window xs ys
  all_weighed xs ys all e = subst (AreWeighed window xs) (sym e) (record { weight = λ label c at. weighed_all xs all label c; within = still_changes xs all })

  -- a loop that weighs each of them
  pub weighed_next : (xs ys : List Weighted) (i : ℕ) (x y : Weighted) → i < length xs → ys ≡ map (weighed_in window) (take i xs) ++ drop i xs → x ≡ get_or ys i x → y ≡ weighed_in window (get_or ys i x)
      → set ys i y ≡ map (weighed_in window) (take (i + 1) xs) ++ drop (i + 1) xs
  weighed_next xs ys i x y small so_far is e =
      ap (set ys i) (e ∙ ap (weighed_in window) (sym is)) ∙ map_over_more (weighed_in window) xs ys i x small so_far is

  pub weighed_whole : (xs ys : List Weighted) (i len : ℕ) → All (IsChangeIn window) xs → len ≡ length ys → length xs ≤ i → ys ≡ map (weighed_in window) (take i xs) ++ drop i xs
      → AreWeighed window xs (take len (ys ++ drop (length ys) xs))
  weighed_whole xs ys i len all e past so_far =
      rw (put_back len ys xs e) (all_weighed xs ys all
      (so_far ∙ ap (λ (zs : List Weighted). map (weighed_in window) zs ++ drop i xs) (take_all i xs past) ∙ ap (λ (zs : List Weighted). map (weighed_in window) xs ++ zs) (drop_all i xs past)
      ∙ append-nil (map (weighed_in window) xs)))

  pub weighed_in_order : (xs ys sorted : List Weighted) → AreWeighed window xs ys → IsPermutation ys sorted → AreWeighed window xs sorted
  weighed_in_order xs ys sorted are moved = record {
    weight = λ label c at. rest_trans (rest_equal (sum_by-IsPermutation (weight_if label c) ys sorted moved)) (are.weight label c at);
    within = all_of_each (IsChangeIn window) sorted (λ x h. All-contains (IsChangeIn window) ys x are.within (Contains-permutation sorted ys x (IsPermutation-sym ys sorted moved) h));
  }

  -- ---- changes that are moved down

  pub lower_cells : (rect lower : Rect) → lower.x0 ≡ rect.x0 → lower.x1 ≡ rect.x1 → lower.y0 +ℤ pos 1 ≡ rect.y0 → lower.y1 +ℤ pos 1 ≡ rect.y1 → (c : Cell) → Has lower (below c) ↔ Has rect c
  lower_cells rect lower left right bottom top c = (
    λ h. record { across = record { from = subst (λ x. x ≤ℤ c.i) left h.across.from; before = subst (λ x. c.i <ℤ x) right h.across.before }; up = up (below c).j c.j lower.y0 lower.y1 rect.y0 rect.y1 (omega (arith, ints)) bottom top h.up },
    λ h. record { across = record { from = subst (λ x. x ≤ℤ c.i) (sym left) h.across.from; before = subst (λ x. c.i <ℤ x) (sym right) h.across.before }; up = down (below c).j c.j lower.y0 lower.y1 rect.y0 rect.y1 (omega (arith, ints)) bottom top h.up },
  ) where
    up : (k j a b a' b' : ℤ) → k +ℤ pos 1 ≡ j → a +ℤ pos 1 ≡ a' → b +ℤ pos 1 ≡ b' → IsIn a b k → IsIn a' b' j
    up k j a b a' b' e f g h = let l = h.from in let m = h.before in record { from = omega (arith, ints); before = omega (arith, ints) }

    down : (k j a b a' b' : ℤ) → k +ℤ pos 1 ≡ j → a +ℤ pos 1 ≡ a' → b +ℤ pos 1 ≡ b' → IsIn a' b' j → IsIn a b k
    down k j a b a' b' e f g h = let l = h.from in let m = h.before in record { from = omega (arith, ints); before = omega (arith, ints) }

  lower_one : (x l : Weighted) → IsOneLower x l → (label : ℕ) (c : Cell) → weight_if label (below c) l ≡ weight_if label c x
  lower_one x l is label c = elim (weighs_or_not label c x) [
    | inl h ↦ weighs label (below c) l (is.label ∙ h.0) ((is.cells c).1 h.1) ∙ is.weight ∙ sym h.2
    | inr h ↦ weighs_nothing label (below c) l (λ k. h.0 (sym is.label ∙ k.0, (is.cells c).0 k.1)) ∙ sym h.1
  ]

  -- none of its cells lies in the top row
  none_at_top : (x l : Weighted) → IsChangeIn window x → IsOneLower x l → (label : ℕ) (c : Cell) → c.j +ℤ pos 1 ≡ window.y1 → weight_if label c l ≡ 0
  none_at_top x l change is label c top = weighs_nothing label c l (λ h.
      let above : Cell = record { i = c.i; j = c.j +ℤ pos 1 } in
      let e : c ≡ below above = same_cell c (below above) refl (omega (arith, ints)) in
      let in_window = change.within above ((is.cells above).0 (subst (Has l.rect) e h.1)) in
      let b = in_window.up.before in
      absurd (omega (arith, ints)))

  pub none_lowered : AreLowered window [] []
  none_lowered = record { moved = λ label c at low. refl; none_at_top = λ label c top. refl }

  lowered_more : (xs ls : List Weighted) (x l : Weighted) → AreLowered window xs ls → IsChangeIn window x → IsOneLower x l → AreLowered window (xs ++ x ∷ []) (ls ++ l ∷ [])
  lowered_more xs ls x l are change is = record {
    moved = λ label c at low.
        let a = sum_by_push (weight_if label (below c)) ls l in
        let b = sum_by_push (weight_if label c) xs x in
        let e = lower_one x l is label c in
        let f = are.moved label c at low in
        omega (arith, a, b, e, f);
    none_at_top = λ label c top.
        let a = sum_by_push (weight_if label c) ls l in
        let e = none_at_top x l change is label c top in
        let f = are.none_at_top label c top in
        omega (arith, a, e, f);
  }

  -- one of the window's lowest row
  lowest_left : (xs ls : List Weighted) (x : Weighted) → AreLowered window xs ls → IsChangeIn window x → x.rect.y0 ≤ℤ window.y0 → AreLowered window (xs ++ x ∷ []) ls
  lowest_left xs ls x are change lowest = record {
    moved = λ label c at low.
        let b = sum_by_push (weight_if label c) xs x in
        let e = weighs_nothing label c x (λ h. let l = change.level in let u = h.1.up.before in let w = low.up.from in absurd (omega (arith, ints))) in
        let f = are.moved label c at low in
        omega (arith, b, e, f);
    none_at_top = are.none_at_top;
  }

  pub lowered_next : (xs old new : List Weighted) (i : ℕ) (x : Weighted) → All (IsChangeIn window) xs → i < length xs → x ≡ get_or xs i x → AreLowered window (take i xs) old → GainsLower window x old new
      → AreLowered window (take (i + 1) xs) new
  lowered_next xs old new i x all small is are gains =
      let change = subst (IsChangeIn window) (sym is) (all i x small) in
      rw (taken_more xs i x small is) (elim gains [
        | inl g ↦ rw g.2 (lowered_more (take i xs) old x g.0 are change g.1)
        | inr g ↦ rw g.1 (lowest_left (take i xs) old x are change g.0)
      ])

  pub lowered_in_order : (xs ls sorted : List Weighted) → AreLowered window xs ls → IsPermutation ls sorted → AreLowered window xs sorted
  lowered_in_order xs ls sorted are order = record {
    moved = λ label c at low. sum_by-IsPermutation (weight_if label (below c)) ls sorted order ∙ are.moved label c at low;
    none_at_top = λ label c top. sum_by-IsPermutation (weight_if label c) ls sorted order ∙ are.none_at_top label c top;
  }

  -- ---- slabs

  once_counts : (x : Labelled) (label : ℕ) (c : Cell) → Has window c → weight_if label c (counted_once x) ≡ cond (x.label == label && (has_cell c x.rect && has_cell c window)) 1 0
  once_counts x label c at = rw (has_so c window at) (both (x.label == label) (has_cell c x.rect)) where
    both : (s t : Bool) → (if s && t then 1 else 0) ≡ cond {A = ℕ} (s && (t && true)) 1 0
    both true true = refl
    both true false = refl
    both false t = refl

  all_count_once : (xs : List Labelled) (label : ℕ) (c : Cell) → Has window c → weight_at (map counted_once xs) label c ≡ count_in window xs label c
  all_count_once [] label c at = refl
  all_count_once (x ∷ xs) label c at =
      let a = sum_by-cons (weight_if label c) (counted_once x) (map counted_once xs) in
      let b = sum_by-cons (λ (y : Labelled). cond (y.label == label && (has_cell c y.rect && has_cell c window)) 1 0) x xs in
      let e = once_counts x label c at in
      let rest = all_count_once xs label c at in
      omega (arith, a, b, e, rest)

  pub slabs_in_order : (runs slabs : List Labelled) (sorted : List Weighted) → CoverAlike window runs slabs → IsPermutation (map counted_once slabs) sorted → AreSlabsOf window runs sorted
  slabs_in_order runs slabs sorted alike order = record {
    weight = λ label c at.
        rest_trans (rest_equal (sum_by-IsPermutation (weight_if label c) (map counted_once slabs) sorted order ∙ all_count_once slabs label c at)) (alike label c);
  }
