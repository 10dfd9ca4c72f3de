-- lists in which an item was put in, taken out or changed
use Rattle.std.proofs.Common.{ℕ, zero, suc, ◌+◌, ◌<◌, ◌≤◌, ◌≡◌, ◌⊎◌, inl, inr, sym, ap, subst, ◌∙◌, List, length, get_or, set, take, drop, map, arith, All, AllPairs}
use Rattle.lists.proofs.Words.{cases_lt, length-take, length-drop, get_or-take, get_or-map, get_or_default}
use Rattle.lists.proofs.Differing.{AllPairs-map, AllPairs-unmap}
use Rattle.std.specs.List.{AllWithin, insert, remove}
use Rattle.std.proofs.lemmas.List.{get_or-drop, map-set, set-get_or}
use Rattle.std.proofs.lemmas.List.Edits.{length-insert, length-remove, get_or-insert_below, get_or-insert_at, get_or-insert_above, get_or-remove_below, get_or-remove_above}

module _ {X : Type 0} where
  -- ---- the items before a number, and those from it on

  pub all_before : (P : X → Type 0) (n : ℕ) (xs : List X) → AllWithin P xs 0 n → All P (take n xs)
  all_before P n xs h k d small = let short = length-take n xs in subst P (sym (get_or-take n xs k d (omega arith))) (h k d (omega arith) (omega arith))

  pub all_from : (P : X → Type 0) (n : ℕ) (xs : List X) → AllWithin P xs n (length xs) → All P (drop n xs)
  all_from P n xs h k d small = let rest = length-drop n xs in subst P (sym (get_or-drop n xs k d)) (h (n + k) d (omega arith) (omega arith))

  pub pairs_before : (R : X → X → Type 0) (xs : List X) (i : ℕ) (x : X) → i < length xs → get_or xs i x ≡ x → AllPairs R xs → AllWithin (λ y. R y x) xs 0 i
  pairs_before R xs i x small is pairs k d low high = subst (R (get_or xs k d)) (get_or_default xs i d x small ∙ is) (pairs k i d high small)

  pub pairs_behind : (R : X → X → Type 0) (xs : List X) (i : ℕ) (x : X) → i < length xs → get_or xs i x ≡ x → AllPairs R xs → AllWithin (R x) xs (i + 1) (length xs)
  pairs_behind R xs i x small is pairs k d low high = subst (λ y. R y (get_or xs k d)) (get_or_default xs i d x small ∙ is) (pairs i k d (omega arith) high)

  -- ---- an item is taken out

  module _ (xs : List X) (i : ℕ) (small : i < length xs) where
    pub below_removed : (P : X → Type 0) → AllWithin P xs 0 i → AllWithin P (remove xs i) 0 i
    below_removed P h k d low high = subst P (sym (get_or-remove_below xs i d k high small)) (h k d low high)

    pub above_removed : (P : X → Type 0) → AllWithin P xs (i + 1) (length xs) → AllWithin P (remove xs i) i (length (remove xs i))
    above_removed P h k d low high =
        let shorter = length-remove xs i small in
        subst P (sym (get_or-remove_above xs i d k low small)) (h (k + 1) d (omega arith) (omega arith))

    -- where an item of the shorter list stood
    removed_at : (k : ℕ) (d : X) → ((k < i) × (get_or (remove xs i) k d ≡ get_or xs k d)) ⊎ ((i ≤ k) × (get_or (remove xs i) k d ≡ get_or xs (k + 1) d))
    removed_at k d = elim (cases_lt k i) [
      | inl less ↦ inl (less, get_or-remove_below xs i d k less small)
      | inr more ↦ inr (more, get_or-remove_above xs i d k more small)
    ]

    pub all_removed : (P : X → Type 0) → All P xs → All P (remove xs i)
    all_removed P h k d within =
        let shorter = length-remove xs i small in
        elim (removed_at k d) [
          | inl p ↦ subst P (sym p.1) (h k d (omega arith))
          | inr p ↦ subst P (sym p.1) (h (k + 1) d (omega arith))
        ]

    pub pairs_removed : (R : X → X → Type 0) → AllPairs R xs → AllPairs R (remove xs i)
    pairs_removed R h a b d before within =
        let shorter = length-remove xs i small in
        let join = λ (m n : ℕ) (e : get_or (remove xs i) a d ≡ get_or xs m d) (f : get_or (remove xs i) b d ≡ get_or xs n d) (less : m < n) (end : n < length xs).
        subst (λ y. R (get_or (remove xs i) a d) y) (sym f) (subst (λ x. R x (get_or xs n d)) (sym e) (h m n d less end)) in
        elim (removed_at a d) [
          | inl p ↦ elim (removed_at b d) [
            | inl q ↦ join a b p.1 q.1 before (omega arith)
            | inr q ↦ join a (b + 1) p.1 q.1 (omega arith) (omega arith)
          ]
          | inr p ↦ elim (removed_at b d) [
            | inl q ↦ absurd (let l = p.0 in let m = q.0 in omega arith)
            | inr q ↦ join (a + 1) (b + 1) p.1 q.1 (omega arith) (omega arith)
          ]
        ]

  -- ---- an item is put in

  -- where an item of the longer list stood, if it did
  data Stood (xs : List X) (i : ℕ) (y : X) (k : ℕ) (d : X) : Type 0 where
    before : k < i → get_or (insert xs i y) k d ≡ get_or xs k d → Stood xs i y k d
    put : k ≡ i → get_or (insert xs i y) k d ≡ y → Stood xs i y k d
    behind : (m : ℕ) → i ≤ m → k ≡ m + 1 → get_or (insert xs i y) k d ≡ get_or xs m d → Stood xs i y k d

  module _ (xs : List X) (i : ℕ) (small : i ≤ length xs) (y : X) where
    pub below_inserted : (P : X → Type 0) → AllWithin P xs 0 i → AllWithin P (insert xs i y) 0 i
    below_inserted P h k d low high = subst P (sym (get_or-insert_below xs i y d k high small)) (h k d low high)

    stood_behind : (k : ℕ) (d : X) → i < k → Stood xs i y k d
    stood_behind zero d more = absurd (omega arith)
    stood_behind (suc m) d more =
        let e : suc m ≡ m + 1 = omega arith in
        behind m (omega arith) e (subst (λ n. get_or (insert xs i y) n d ≡ get_or xs m d) (sym e) (get_or-insert_above xs i y d m (omega arith) small))

    stood : (k : ℕ) (d : X) → Stood xs i y k d
    stood k d = elim (cases_lt k i) [
      | inl less ↦ before less (get_or-insert_below xs i y d k less small)
      | inr more ↦ elim (cases_lt i k) [
        | inl past ↦ stood_behind k d past
        | inr same ↦
            let e : k ≡ i = omega arith in
            put e (subst (λ n. get_or (insert xs i y) n d ≡ y) (sym e) (get_or-insert_at xs i y d small))
      ]
    ]

    pub above_inserted : (P : X → Type 0) → P y → AllWithin P xs i (length xs) → AllWithin P (insert xs i y) i (length (insert xs i y))
    above_inserted P here h k d low high =
        let longer = length-insert xs i y small in
        elim (stood k d) [
          | before less e ↦ absurd (omega arith)
          | put same e ↦ subst P (sym e) here
          | behind m more same e ↦ subst P (sym e) (h m d more (omega arith))
        ]

    pub all_inserted : (P : X → Type 0) → P y → All P xs → All P (insert xs i y)
    all_inserted P here h k d within =
        let longer = length-insert xs i y small in
        elim (stood k d) [
          | before less e ↦ subst P (sym e) (h k d (omega arith))
          | put same e ↦ subst P (sym e) here
          | behind m more same e ↦ subst P (sym e) (h m d (omega arith))
        ]

    pub pairs_inserted : (R : X → X → Type 0) → AllWithin (λ x. R x y) xs 0 i → AllWithin (R y) xs i (length xs) → AllPairs R xs → AllPairs R (insert xs i y)
    pairs_inserted R left right h a b d less within =
        let longer = length-insert xs i y small in
        let join = λ (u v : X) (e : get_or (insert xs i y) a d ≡ u) (f : get_or (insert xs i y) b d ≡ v) (r : R u v).
        subst (λ v'. R (get_or (insert xs i y) a d) v') (sym f) (subst (λ u'. R u' v) (sym e) r) in
        elim (stood a d) [
          | before l e ↦ elim (stood b d) [
            | before m f ↦ join _ _ e f (h a b d less (omega arith))
            | put m f ↦ join _ _ e f (left a d (omega arith) l)
            | behind n m s f ↦ join _ _ e f (h a n d (omega arith) (omega arith))
          ]
          | put l e ↦ elim (stood b d) [
            | before m f ↦ absurd (omega arith)
            | put m f ↦ absurd (omega arith)
            | behind n m s f ↦ join _ _ e f (right n d m (omega arith))
          ]
          | behind o l t e ↦ elim (stood b d) [
            | before m f ↦ absurd (omega arith)
            | put m f ↦ absurd (omega arith)
            | behind n m s f ↦ join _ _ e f (h o n d (omega arith) (omega arith))
          ]
        ]

-- ---- an item is changed but for its key

pub keys_kept : {X Y : Type 0} (key : X → Y) (xs : List X) (i : ℕ) (x y : X) → i < length xs → get_or xs i x ≡ x → key y ≡ key x → map key (set xs i y) ≡ map key xs
keys_kept key xs i x y small is same =
    map-set key xs i y ∙ ap (set (map key xs) i) (same ∙ sym (get_or-map key xs i x (key x) small ∙ ap key is)) ∙ set-get_or (map key xs) i (key x)

pub pairs_kept : {X Y : Type 0} (R : Y → Y → Type 0) (key : X → Y) (xs ys : List X) → map key ys ≡ map key xs → AllPairs (λ a b. R (key a) (key b)) xs → AllPairs (λ a b. R (key a) (key b)) ys
pairs_kept R key xs ys same h = AllPairs-unmap R key ys (subst (AllPairs R) (sym same) (AllPairs-map R key xs h))
