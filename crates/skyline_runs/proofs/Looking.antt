-- how many active rectangles are looked at: each begins at another column of a list
use Rattle.std.proofs.Common.{ℕ, ℤ, suc, List, [], ◌∷◌, ◌+◌, ◌*◌, ◌<◌, ◌≤◌, ◌≡◌, ◌∙◌, ◌≤ℤ◌, ◌<ℤ◌, cond, length, add-one, ap, sym, subst, inl, inr, arith, Contains}
use Rattle.std.proofs.Math.Nat.{mul_comm, mul-le-mul_right, suc-mul}
use Rattle.lists.proofs.Words.{ints, le_z}
use Rattle.lists.proofs.Containing.{Contains-cons_cases, Contains-head, Contains-none, Contains-tail}
use Rattle.geo_core.specs.declared.plane.Cell.{Cell}
use Rattle.geo_core.specs.declared.plane.Rect.{Rect}
use Rattle.skyline_runs.specs.inside.Skylines.{HasSides, IsActiveIn, IsUnder}
use Rattle.skyline_runs.specs.declared.skyline.Skyline.{Skyline}

-- how many columns of the list lie at this one or behind it
abbrev pub from_on : ℤ → List ℤ → ℕ
from_on c [] = 0
from_on c (x ∷ xs) = cond (le_z c x) 1 0 + from_on c xs

fewer_here : (a c x : ℤ) → a ≤ℤ c → cond (le_z c x) 1 0 ≤ cond (le_z a x) 1 0
fewer_here a c x h = grind (arith, ints)

one_here : (c x : ℤ) → cond (le_z c x) 1 0 ≤ 1
one_here c x = grind (arith, ints)

fewer_on : (a c : ℤ) → a ≤ℤ c → (xs : List ℤ) → from_on c xs ≤ from_on a xs
fewer_on a c h [] = omega arith
fewer_on a c h (x ∷ xs) = let rest = fewer_on a c h xs in let here = fewer_here a c x h in omega arith

pub from_on_few : (c : ℤ) (xs : List ℤ) → from_on c xs ≤ length xs
from_on_few c [] = omega arith
from_on_few c (x ∷ xs) = let rest = from_on_few c xs in let here = one_here c x in omega arith

at_here : (a c x : ℤ) → x ≡ a → a <ℤ c → cond (le_z c x) 1 0 + 1 ≤ cond (le_z a x) 1 0
at_here a c x e h = grind (arith, ints)

more_on : (a c : ℤ) → a <ℤ c → (xs : List ℤ) → Contains xs a → from_on c xs + 1 ≤ from_on a xs
more_on a c h [] m = absurd (Contains-none m)
more_on a c h (x ∷ xs) m = elim (Contains-cons_cases x xs a m) [
  | inl e ↦ let here = at_here a c x e h in let rest = fewer_on a c (omega (arith, ints)) xs in omega arith
  | inr k ↦ let rest = more_on a c h xs k in let here = fewer_here a c x (omega (arith, ints)) in omega arith
]

-- one more is met, which begins before the column so far
pub met_more : (xs : List ℤ) (met met' : ℕ) (column a x : ℤ) → met ≤ from_on column xs → Contains xs a → a <ℤ column → x ≤ℤ a → met' ≤ met + 1 → met' ≤ from_on x xs
met_more xs met met' column a x few begins before up_to more = let rest = more_on a column before xs begins in let still = fewer_on x a up_to xs in omega arith

-- ---- the sides of a list of rectangles

unfoldable pub sides_of : List Rect → List ℤ
sides_of [] = []
sides_of (rect ∷ rects) = rect.x0 ∷ rect.x1 ∷ sides_of rects

pub two_each : (rects : List Rect) → length (sides_of rects) ≡ 2 * length rects
unfolding sides_of
two_each [] = omega arith
two_each (rect ∷ rects) = let rest = two_each rects in omega arith

pub has_left : (rects : List Rect) (rect : Rect) → Contains rects rect → Contains (sides_of rects) rect.x0
unfolding sides_of
has_left [] rect c = absurd (Contains-none c)
has_left (r ∷ rects) rect c = elim (Contains-cons_cases r rects rect c) [
  | inl e ↦ subst (λ (q : Rect). Contains (r.x0 ∷ r.x1 ∷ sides_of rects) q.x0) e (Contains-head r.x0 (r.x1 ∷ sides_of rects))
  | inr k ↦ Contains-tail r.x0 (r.x1 ∷ sides_of rects) rect.x0 (Contains-tail r.x1 (sides_of rects) rect.x0 (has_left rects rect k))
]

pub has_right : (rects : List Rect) (rect : Rect) → Contains rects rect → Contains (sides_of rects) rect.x1
unfolding sides_of
has_right [] rect c = absurd (Contains-none c)
has_right (r ∷ rects) rect c = elim (Contains-cons_cases r rects rect c) [
  | inl e ↦ subst (λ (q : Rect). Contains (r.x0 ∷ r.x1 ∷ sides_of rects) q.x1) e (Contains-tail r.x0 (r.x1 ∷ sides_of rects) r.x1 (Contains-head r.x1 (sides_of rects)))
  | inr k ↦ Contains-tail r.x0 (r.x1 ∷ sides_of rects) rect.x1 (Contains-tail r.x1 (sides_of rects) rect.x1 (has_right rects rect k))
]

-- where nothing is covered nothing is active
pub none_active : (s : Skyline) (xs : List ℤ) → ((c : Cell) → IsUnder s c → ⊥) → HasSides xs s
none_active s xs none = record { begins = λ q at. absurd (empty q at); ends = λ q at. absurd (empty q at) } where
  empty : (q : Rect) → IsActiveIn s q → ⊥
  empty q at =
      let some = q.across.some in let rows = q.up.some in
      none (record { i = q.x0; j = q.y0 }) (record {
        rect = q;
        part = inl at;
        has = record { across = record { from = omega (arith, ints); before = some }; up = record { from = omega (arith, ints); before = rows } };
      })

-- ---- looks for some rectangles

-- where each takes no more than k
pub looks_each : (i k so_far looks more : ℕ) → so_far ≤ i * k → looks ≤ k → more ≤ so_far + looks → more ≤ (i + 1) * k
looks_each i k so_far looks more few one sum =
    let one_more : (i + 1) * k ≡ i * k + k = ap (λ (m : ℕ). m * k) (add-one i) ∙ suc-mul i k in
    subst (λ (m : ℕ). more ≤ m) (sym one_more) (omega arith)

-- of the first skyline, for the parts by the second one, and for the rectangle itself
pub looks_both : (n parts met over looks sum : ℕ) → met ≤ n → parts ≤ n → over ≤ parts * (n + 1) → looks ≤ n + 1
    → sum ≤ looks + met + over → sum ≤ (n + 1) * (n + 2)
looks_both n parts met over looks sum few_met few_parts few_over few all =
    let most : parts * (n + 1) ≤ n * (n + 1) = mul-le-mul_right {m = parts} {n = n} (n + 1) few_parts in
    let two : (n + 2) * (n + 1) ≡ n * (n + 1) + (n + 1) + (n + 1) =
    ap (λ (m : ℕ). m * (n + 1)) (n_and_two n) ∙ suc-mul (suc n) (n + 1) ∙ ap (λ (m : ℕ). m + (n + 1)) (suc-mul n (n + 1)) in
    subst (λ (m : ℕ). sum ≤ m) (mul_comm (n + 2) (n + 1)) (omega arith) where
      n_and_two : (n : ℕ) → n + 2 ≡ suc (suc n)
      n_and_two n = omega arith

-- ---- looks that are left

pub looks_more : (i k left rest looks initial : ℕ) → initial ≤ left + i * k → looks ≤ k → rest + looks ≡ left → initial ≤ rest + (i + 1) * k
looks_more i k left rest looks initial so_far few taken =
    let one : (i + 1) * k ≡ i * k + k = ap (λ (m : ℕ). m * k) (add-one i) ∙ suc-mul i k in
    subst (λ (m : ℕ). initial ≤ rest + m) (sym one) (omega arith)

pub looks_over : (i n k left looks initial : ℕ) → initial ≤ left + i * k → looks ≤ k → left < looks → i < n → initial < n * k
looks_over i n k left looks initial so_far few over small =
    let all : suc i * k ≤ n * k = mul-le-mul_right {m = suc i} {n = n} k (omega arith) in
    let one = suc-mul i k in omega arith
