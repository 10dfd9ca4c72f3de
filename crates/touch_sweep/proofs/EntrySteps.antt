-- rectangles are numbered one after the other
use Rattle.std.proofs.Common.{ℕ, ◌+◌, ◌<◌, ◌≡◌, refl, sym, ap, subst, ◌∙◌, List, [], ◌∷◌, ◌++◌, length, get_or, arith, inl, inr, Some, false, Contains, slice_get, ◌↔◌, ℤ, ◌≤ℤ◌, ◌<ℤ◌}
use Rattle.lists.proofs.Words.{eqb_tells, Contains-append_left, Contains-push, Contains-push_cases, Contains-permutation, IsPermutation-sym, slice_get_within, IsPermutation, ranks_by, sorted_far, int_ranked, int_cmp_total, always_returns_same, ints, Called, ComputesKey, IsSortedByKey, MatchOrdering, int_cmp, is_lt, Ordering, Less, Equal, Greater}
use denote.Param.Members.{Mut}
use denote.Ref.{Bor}
use Rattle.geo_core.specs.declared.plane.Rect.{Rect}
use Rattle.touch_sweep.specs.inside.Entries.{AreNumbered, IsByRow}
use Rattle.touch_sweep.specs.declared.numbered.Numbered.{Numbered}
use Rattle.lists.proofs.Containing.{Contains-none}

-- exactly the first `n` rectangles, each with its number
abbrev pub AreFirstNumbered : List Rect → ℕ → List Numbered → Type 0
AreFirstNumbered rects n entries = (e : Numbered) → Contains entries e ↔ ((e.number < n) × (slice_get rects e.number ≡ Some e.rect))

pub none_numbered : (rects : List Rect) → AreFirstNumbered rects 0 []
none_numbered rects e = (λ c. absurd (Contains-none c), λ h. absurd (let f = h.0 in omega arith))

pub one_more_numbered : (rects : List Rect) (n : ℕ) (rect : Rect) (entries : List Numbered) → slice_get rects n ≡ Some rect → AreFirstNumbered rects n entries
    → AreFirstNumbered rects (n + 1) (entries ++ record { number = n; rect = rect } ∷ [])
one_more_numbered rects n rect entries at first e = (
  λ c. elim (Contains-push_cases entries it e c) [
    | inl d ↦ let h = (first e).0 d in let f = h.0 in (omega arith, h.1)
    | inr same ↦ subst (λ (x : Numbered). (x.number < n + 1) × (slice_get rects x.number ≡ Some x.rect)) same (omega arith, at)
  ],
  λ h. elim (eqb_tells e.number n) [
    | inl same ↦ subst (Contains (entries ++ it ∷ [])) (is_it h.1 same.1) (Contains-push entries it)
    | inr other ↦ let f = h.0 in let g = other.1 in Contains-append_left entries (it ∷ []) e ((first e).1 (omega arith, h.1))
  ],
) where
  it : Numbered
  it = record { number = n; rect = rect }

  is_it : slice_get rects e.number ≡ Some e.rect → e.number ≡ n → it ≡ e
  is_it h same =
      let rect_is : rect ≡ e.rect = cc (at, h, ap (slice_get rects) same) in
      let make : ℕ → Rect → Numbered = λ k r. record { number = k; rect = r } in
      ap (λ k. make k rect) (sym same) ∙ ap (make e.number) rect_is

pub all_numbered : (rects : List Rect) (n : ℕ) (entries : List Numbered) → length rects ≡ n → AreFirstNumbered rects n entries → AreNumbered rects entries
all_numbered rects n entries long first e = (
  λ c. ((first e).0 c).1,
  λ h. (first e).1 (let f = slice_get_within rects e.number e.rect h in omega arith, h),
)

-- the order of the entries does not matter
pub AreNumbered-permutation : (rects : List Rect) (entries moved : List Numbered) → IsPermutation entries moved → AreNumbered rects entries → AreNumbered rects moved
AreNumbered-permutation rects entries moved p all e = (
  λ c. (all e).0 (Contains-permutation moved entries e (IsPermutation-sym entries moved p) c),
  λ h. Contains-permutation entries moved e p ((all e).1 h),
)

-- ---- a sort by rows

not_less : (a b : ℤ) (r : Ordering) → MatchOrdering r (a <ℤ b) (a ≡ b) (b <ℤ a) → is_lt r ≡ false → b ≤ℤ a
not_less a b Less m e = cc
not_less a b Equal m e = omega (arith, ints)
not_less a b Greater m e = omega (arith, ints)

by_row_key : (entries : List Numbered) → IsSortedByKey (λ e. e.rect.y0) int_cmp entries → IsByRow entries
by_row_key entries up i j d before within =
    let a = (get_or entries j d).rect.y0 in let b = (get_or entries i d).rect.y0 in
    not_less a b (int_cmp a b) (int_ranked a b (int_cmp a b) refl)
    (sorted_far (λ x y. is_lt (int_cmp x.rect.y0 y.rect.y0)) (ranks_by int_cmp_total (λ (e : Numbered). e.rect.y0)) entries up i j d (omega arith) within)

-- what a sort by a key gives, where the key is the lowest row
pub IsByRow-from_sort : {F : Type 0} {g : Mut F (Bor Numbered × Unit {0}) ℤ} {f : F} (entries : List Numbered) → ((key : Numbered → ℤ) → ComputesKey g key f → IsSortedByKey key int_cmp entries)
    → ((a : Bor Numbered × Unit {0}) (r : ℤ) (f' : F) → Called g f a r f' → (r ≡ a.0.now.rect.y0) × (f' ≡ f)) → IsByRow entries
IsByRow-from_sort {g = g} {f = f} entries up h = by_row_key entries (up (λ e. e.rect.y0) (always_returns_same g (λ a r. r ≡ a.0.now.rect.y0) f h))
