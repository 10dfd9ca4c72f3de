-- degrees, counted pair by pair
use Rattle.std.proofs.Common.{drop-cons, ℕ, ◌+◌, ◌<◌, ◌≡◌, ◌≢◌, refl, sym, ap, subst, ◌∙◌, List, length, sum, arith, inl, inr, get_or, set, get_or-set_same, get_or-set_other, length-set, drop, add-one, Contains}
use Rattle.lists.proofs.Words.{sum_by-set, eqb_tells}
use Rattle.classes.specs.Classes.{AreBelow}
use Rattle.classes.specs.inside.Degrees.{match_count, degree_of}
use Rattle.lists.proofs.Comparing.{equal_or_not}

-- the i-th pair
abbrev pub pair_at : List (ℕ × ℕ) → ℕ → ℕ × ℕ
pair_at pairs i = get_or pairs i (0, 0)

pub in_range : (n : ℕ) (pairs : List (ℕ × ℕ)) (i : ℕ) → AreBelow n pairs → i < length pairs → ((pair_at pairs i).0 < n) × ((pair_at pairs i).1 < n)
in_range n pairs i below h = below i (0, 0) h

-- numbers of a pair that the list has are below n
pub pair_below : (n : ℕ) (pairs : List (ℕ × ℕ)) → AreBelow n pairs → (a b : ℕ) → Contains pairs (a, b) → (a < n) × (b < n)
pair_below n pairs below a b (k, h, e) = subst (λ (p : ℕ × ℕ). (p.0 < n) × (p.1 < n)) e (below k (a, b) h)

pub match_count_same : (k a : ℕ) → k ≡ a → match_count k a ≡ 1
match_count_same k a e = elim (eqb_tells k a) [ inl h ↦ rw h.0 | inr h ↦ absurd (h.1 e) ]

pub match_count_other : (k a : ℕ) → k ≢ a → match_count k a ≡ 0
match_count_other k a n = elim (eqb_tells k a) [ inl h ↦ absurd (n h.1) | inr h ↦ rw h.0 ]

-- the list with the number at a place raised by one
abbrev pub raise : List ℕ → ℕ → List ℕ
raise xs a = set xs a (get_or xs a 0 + 1)

pub get_or-raise : (xs : List ℕ) (a k : ℕ) → a < length xs → get_or (raise xs a) k 0 ≡ get_or xs k 0 + match_count k a
get_or-raise xs a k h = elim (equal_or_not k a) [
  | inl e ↦ rw (e, get_or-set_same xs a (get_or xs a 0 + 1) 0 h, match_count_same a a refl)
  | inr n ↦ let o = match_count_other k a n in get_or-set_other xs a k (get_or xs a 0 + 1) 0 n ∙ (rw o (omega arith))
]

sum-raise : (xs : List ℕ) (a : ℕ) → a < length xs → sum (raise xs a) ≡ sum xs + 1
sum-raise xs a h = let e = sum_by-set (λ x. x) xs a (get_or xs a 0 + 1) 0 h in omega arith

pub degree_of-drop : (k : ℕ) (pairs : List (ℕ × ℕ)) (i : ℕ) → i < length pairs → degree_of k (drop i pairs) ≡ match_count k (pair_at pairs i).0 + match_count k (pair_at pairs i).1 + degree_of k
    (drop (i + 1) pairs)
degree_of-drop k pairs i h = rw (add-one, drop-cons pairs i (0, 0)) refl

-- the next pair raises the count of both its ends, and the sum by two
pub counted_more : (ds : List ℕ) (pairs : List (ℕ × ℕ)) (i a b : ℕ) → i < length pairs → a ≡ (pair_at pairs i).0 → b ≡ (pair_at pairs i).1 → a < length ds → b < length ds
    → ((k : ℕ) → k < length ds → get_or ds k 0 + degree_of k (drop i pairs) ≡ degree_of k pairs) → (k : ℕ) → k < length (raise (raise ds a) b)
    → get_or (raise (raise ds a) b) k 0 + degree_of k (drop (i + 1) pairs) ≡ degree_of k pairs
counted_more ds pairs i a b h e f in_a in_b all k small =
    let long = length-set ds a (get_or ds a 0 + 1) in
    let long' = length-set (raise ds a) b (get_or (raise ds a) b 0 + 1) in
    let was = all k (omega arith) in
    let p = get_or-raise ds a k in_a in
    let q = get_or-raise (raise ds a) b k (omega arith) in
    let s = degree_of-drop k pairs i h in
    let x : match_count k (pair_at pairs i).0 ≡ match_count k a = ap (match_count k) (sym e) in
    let y : match_count k (pair_at pairs i).1 ≡ match_count k b = ap (match_count k) (sym f) in
    omega arith

pub total_more : (ds : List ℕ) (i a b : ℕ) → a < length ds → b < length ds → sum ds ≡ i + i → sum (raise (raise ds a) b) ≡ (i + 1) + (i + 1)
total_more ds i a b in_a in_b e =
    let long = length-set ds a (get_or ds a 0 + 1) in
    let p = sum-raise ds a in_a in
    let q = sum-raise (raise ds a) b (omega arith) in
    omega arith
