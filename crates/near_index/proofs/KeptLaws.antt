-- what is kept of lists, one after the other, and what the kept lists contain
use Rattle.std.proofs.Common.{sym, subst, List, [], ◌∷◌, ◌++◌, inl, inr, Contains, All}
use Rattle.lists.proofs.Words.{All-head, All-tail, append-nil}
use Rattle.lists.proofs.Containing.{Contains-cons_cases, Contains-head, Contains-none, Contains-tail}
use Rattle.near_index.specs.Kept.{AreKept, all_seen, kept, dropped}

module _ {X : Type 0} {P : X → Type 0} where
  pub AreKept-append : (xs ys us vs : List X) → AreKept P xs us → AreKept P ys vs → AreKept P (xs ++ ys) (us ++ vs)
  AreKept-append [] ys us vs all_seen more = more
  AreKept-append (x ∷ xs) ys us vs (kept {ys = ws} p k) more = kept p (AreKept-append xs ys ws vs k more)
  AreKept-append (x ∷ xs) ys us vs (dropped n k) more = dropped n (AreKept-append xs ys us vs k more)

  -- nothing is kept of what all fails
  pub none_kept : (xs : List X) → All (λ x. P x → ⊥) xs → AreKept P xs []
  none_kept [] all = all_seen
  none_kept (x ∷ xs) all = dropped (All-head (λ y. P y → ⊥) x xs all) (none_kept xs (All-tail (λ y. P y → ⊥) x xs all))

  -- what is kept
  pub kept_is : (xs ys : List X) (x : X) → AreKept P xs ys → Contains ys x → Contains xs x × P x
  kept_is [] ys x all_seen c = absurd (Contains-none c)
  kept_is (y ∷ xs) ys x (kept {ys = zs} p k) c = elim (Contains-cons_cases y zs x c) [
    | inl e ↦ subst (λ z. Contains (y ∷ xs) z × P z) e (Contains-head y xs, p)
    | inr d ↦ let h = kept_is xs zs x k d in (Contains-tail y xs x h.0, h.1)
  ]
  kept_is (y ∷ xs) ys x (dropped n k) c = let h = kept_is xs ys x k c in (Contains-tail y xs x h.0, h.1)

  pub is_kept : (xs ys : List X) (x : X) → AreKept P xs ys → Contains xs x → P x → Contains ys x
  is_kept [] ys x all_seen c p = absurd (Contains-none c)
  is_kept (y ∷ xs) ys x (kept {ys = zs} q k) c p = elim (Contains-cons_cases y xs x c) [
    | inl e ↦ subst (Contains (y ∷ zs)) e (Contains-head y zs)
    | inr d ↦ Contains-tail y zs x (is_kept xs zs x k d p)
  ]
  is_kept (y ∷ xs) ys x (dropped n k) c p = elim (Contains-cons_cases y xs x c) [
    | inl e ↦ absurd (n (subst P (sym e) p))
    | inr d ↦ is_kept xs ys x k d p
  ]

  -- one item more
  pub one_kept : (xs us : List X) (x : X) → AreKept P xs us → P x → AreKept P (xs ++ x ∷ []) (us ++ x ∷ [])
  one_kept xs us x k p = AreKept-append xs (x ∷ []) us (x ∷ []) k (kept p all_seen)

  pub one_dropped : (xs us : List X) (x : X) → AreKept P xs us → (P x → ⊥) → AreKept P (xs ++ x ∷ []) us
  one_dropped xs us x k n = subst (AreKept P (xs ++ x ∷ [])) (append-nil us) (AreKept-append xs (x ∷ []) us [] k (dropped n all_seen))
