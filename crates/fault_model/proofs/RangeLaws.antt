-- ranges of whole numbers, and tallies of cells that are listed by them
use Rattle.std.proofs.Common.{ℕ, zero, suc, ◌+◌, ◌*◌, ◌≡◌, refl, sym, ap, ◌∙◌, List, [], ◌∷◌, ◌++◌, length, zero-add, arith, inl, inr, ℤ, pos, negsuc, ◌+ℤ◌, ◌-ℤ◌, ◌≤ℤ◌, ◌↔◌, Contains, map, length-append}
use Rattle.lists.proofs.Words.{flat_map, ints}
use Rattle.geo_core.specs.Plane.{IsIn}
use Rattle.geo_core.specs.declared.plane.Cell.{Cell}
use Rattle.fault_model.specs.FaultNames.{Tally, none, hit, miss, from, or_zero, range}
use Rattle.fault_model.proofs.TallyLaws.{Tally-append}
use Rattle.lists.proofs.Containing.{Contains-cons_cases, Contains-head, Contains-none, Contains-tail}

-- ---- ranges

pub or_zero_is : (z : ℤ) → pos 0 ≤ℤ z → pos (or_zero z) ≡ z
or_zero_is (pos n) h = refl
or_zero_is (negsuc n) h = absurd (omega (arith, ints))

from-+ : (x : ℤ) (m n : ℕ) → from x (m + n) ≡ from x m ++ from (x +ℤ pos m) n
from-+ x zero n = let e : x ≡ x +ℤ pos 0 = omega (arith, ints) in rw zero-add (ap (λ y. from y n) e)
from-+ x (suc m) n =
    let e : suc m + n ≡ suc (m + n) = omega arith in
    let f : x +ℤ pos 1 +ℤ pos m ≡ x +ℤ pos (suc m) = omega (arith, ints) in
    ap (from x) e ∙ ap (λ xs. x ∷ xs) (from-+ (x +ℤ pos 1) m n ∙ ap (λ y. from (x +ℤ pos 1) m ++ from y n) f)

-- two ranges, of which the one goes on from where the other ends
pub range-join : (low mid high : ℤ) → low ≤ℤ mid → mid ≤ℤ high → range low high ≡ range low mid ++ range mid high
range-join low mid high h k =
    let a = or_zero_is (mid -ℤ low) (omega (arith, ints)) in
    let b = or_zero_is (high -ℤ mid) (omega (arith, ints)) in
    let c = or_zero_is (high -ℤ low) (omega (arith, ints)) in
    let m : or_zero (high -ℤ low) ≡ or_zero (mid -ℤ low) + or_zero (high -ℤ mid) = omega (arith, ints) in
    let e : low +ℤ pos (or_zero (mid -ℤ low)) ≡ mid = omega (arith, ints) in
    ap (from low) m ∙ from-+ low (or_zero (mid -ℤ low)) (or_zero (high -ℤ mid)) ∙ ap (λ x. range low mid ++ from x (or_zero (high -ℤ mid))) e

pub range-none : (low : ℤ) → range low low ≡ []
range-none low = let a = or_zero_is (low -ℤ low) (omega (arith, ints)) in let m : or_zero (low -ℤ low) ≡ 0 = omega (arith, ints) in ap (from low) m

length-from : (x : ℤ) (n : ℕ) → length (from x n) ≡ n
length-from x zero = refl
length-from x (suc n) = ap suc (length-from (x +ℤ pos 1) n)

pub length-range : (low high : ℤ) (n : ℕ) → pos n ≡ high -ℤ low → length (range low high) ≡ n
length-range low high n e = let a = or_zero_is (high -ℤ low) (omega (arith, ints)) in let m : or_zero (high -ℤ low) ≡ n = omega (arith, ints) in length-from low (or_zero (high -ℤ low)) ∙ m

in_from : (x : ℤ) (n : ℕ) (y : ℤ) → Contains (from x n) y → IsIn x (x +ℤ pos n) y
in_from x zero y h = absurd (Contains-none h)
in_from x (suc n) y h = elim (Contains-cons_cases x (from (x +ℤ pos 1) n) y h) [
  | inl e ↦ record { from = omega (arith, ints); before = omega (arith, ints) }
  | inr rest ↦ let k = in_from (x +ℤ pos 1) n y rest in let a = k.from in let b = k.before in record { from = omega (arith, ints); before = omega (arith, ints) }
]

pub Contains-range : (low high : ℤ) → low ≤ℤ high → (x : ℤ) → Contains (range low high) x → IsIn low high x
Contains-range low high some x h =
    let k = in_from low (or_zero (high -ℤ low)) x h in
    let a = or_zero_is (high -ℤ low) (omega (arith, ints)) in
    let b = k.before in
    record { from = k.from; before = omega (arith, ints) }

-- ---- tallies of cells that are listed by numbers

module _ (P : Cell → Type 0) (cell : ℤ → Cell) where
  pub Tally-all : (xs : List ℤ) → ((x : ℤ) → Contains xs x → P (cell x)) → Tally P (map cell xs) (length xs)
  Tally-all [] all = none
  Tally-all (x ∷ xs) all = hit (all x (Contains-head x xs)) (Tally-all xs (λ y h. all y (Contains-tail x xs y h)))

  pub Tally-never : (xs : List ℤ) → ((x : ℤ) → Contains xs x → P (cell x) → ⊥) → Tally P (map cell xs) 0
  Tally-never [] never = none
  Tally-never (x ∷ xs) never = miss (never x (Contains-head x xs)) (Tally-never xs (λ y h. never y (Contains-tail x xs y h)))

-- two properties that hold of the same of these cells have the same tally
pub Tally-alike : (P Q : Cell → Type 0) (cell : ℤ → Cell) (xs : List ℤ) (n : ℕ) → ((x : ℤ) → P (cell x) ↔ Q (cell x)) → Tally P (map cell xs) n → Tally Q (map cell xs) n
Tally-alike P Q cell [] n is none = none
Tally-alike P Q cell (x ∷ xs) n is (hit {n = k} h t) = hit ((is x).0 h) (Tally-alike P Q cell xs k is t)
Tally-alike P Q cell (x ∷ xs) n is (miss h t) = miss (λ q. h ((is x).1 q)) (Tally-alike P Q cell xs n is t)

-- where each of the lists has the same tally, all of them have that many times their number
pub Tally-times : (P : Cell → Type 0) (cells : ℤ → List Cell) (xs : List ℤ) (n : ℕ) → ((x : ℤ) → Contains xs x → Tally P (cells x) n) → Tally P (flat_map cells xs) (length xs * n)
Tally-times P cells [] n each = let e : 0 * n ≡ 0 = omega arith in rw e none
Tally-times P cells (x ∷ xs) n each =
    let e : suc (length xs) * n ≡ n + length xs * n = omega arith in
    rw e (Tally-append (cells x) _ n (length xs * n) (each x (Contains-head x xs)) (Tally-times P cells xs n (λ y h. each y (Contains-tail x xs y h))))

-- lists of the same length
pub length-times : (cells : ℤ → List Cell) (xs : List ℤ) (n : ℕ) → ((x : ℤ) → length (cells x) ≡ n) → length (flat_map cells xs) ≡ length xs * n
length-times cells [] n each = let e : 0 * n ≡ 0 = omega arith in sym e
length-times cells (x ∷ xs) n each =
    let e : suc (length xs) * n ≡ n + length xs * n = omega arith in
    let f = each x in
    let g = length-times cells xs n each in
    length-append (cells x) (flat_map cells xs) ∙ omega arith

-- cells that are listed by a range, of which each part lists its own
module _ (P : Cell → Type 0) (cells : List ℤ → List Cell) where
  pub Tally-start : cells [] ≡ [] → (low low' : ℤ) → low' ≡ low → Tally P (cells (range low low')) 0
  Tally-start begins low low' e = rw (e, range-none low, begins) none

  pub Tally-join : ((xs ys : List ℤ) → cells (xs ++ ys) ≡ cells xs ++ cells ys) → (low mid high : ℤ) (m n : ℕ) → low ≤ℤ mid → mid ≤ℤ high → Tally P (cells (range low mid)) m
      → Tally P (cells (range mid high)) n → Tally P (cells (range low high)) (m + n)
  Tally-join splits low mid high m n h k s t = let e = ap cells (range-join low mid high h k) ∙ splits (range low mid) (range mid high) in rw e (Tally-append _ _ m n s t)
