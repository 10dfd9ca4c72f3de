-- a search for the first item that shows as what is looked for
use Rattle.std.proofs.Common.{◌≡◌, ℕ, ◌+◌, ◌<◌, ◌≤◌, List, length, get_or, map, sym, ap, ◌∙◌, arith, below_more, Some, option_map, Contains, slice_get}
use Rattle.lists.proofs.Words.{get_or_from_slice_get, slice_get-get_or, slice_get-map, slice_get_within, length-map, get_or-map}

module _ {A B : Type 0} (show : A → B) (items : List A) (wanted : B) where
  -- none of the first items shows so
  abbrev pub NoneBefore : ℕ → Type 0
  NoneBefore n = (k : ℕ) → k < n → get_or (map show items) k wanted ≡ wanted → ⊥

  pub none_before_more : (i : ℕ) (d : A) → i < length items → (show (get_or items i d) ≡ wanted → ⊥) → NoneBefore i → NoneBefore (i + 1)
  none_before_more i d within other before = below_more _ i before (λ same. other (sym (get_or-map show items i d wanted within) ∙ same))

  pub contained : (i : ℕ) (d : A) → i < length items → show (get_or items i d) ≡ wanted → Contains (map show items) wanted
  contained i d within same = (i, omega (arith, length-map items show), get_or-map show items i d wanted within ∙ same)

  pub not_contained : (n : ℕ) → length items ≤ n → NoneBefore n → Contains (map show items) wanted → ⊥
  not_contained n all before (k, within, same) = before k (omega (arith, length-map items show)) same

  -- the same by look-up
  pub there : (i : ℕ) (item : A) → i < length items → item ≡ get_or items i item → show item ≡ wanted → slice_get (map show items) i ≡ Some wanted
  there i item within is same = slice_get-map show items i ∙ ap (option_map show) (slice_get-get_or items i item within ∙ ap Some (sym is)) ∙ ap Some same

  pub none_there : (n : ℕ) → length items ≤ n → NoneBefore n → (k : ℕ) → slice_get (map show items) k ≡ Some wanted → ⊥
  none_there n all before k found =
      let within : k < length (map show items) = slice_get_within (map show items) k wanted found in
      before k (omega (arith, length-map items show)) (get_or_from_slice_get (map show items) k wanted wanted found)
