-- how much there is to link in a strip, and in its halves
use Rattle.std.proofs.Common.{ℕ, zero, suc, refl, ◌+◌, ◌*◌, ◌<◌, ◌≤◌, ◌≡◌, ap, arith, inl, inr, ◌⊎◌, Bool, true, false, cond, List, [], ◌∷◌, length, filter, ℤ, ◌≤ℤ◌, ◌^◌, All, Result, Ok, Err, OnOk}
use Rattle.lists.proofs.Words.{ints, cases_Bool, mul-le, All-contains}
use Rattle.lists.proofs.Containing.{Contains-head}
use Rattle.geo_core.specs.Plane.{IsIn}
use Rattle.touch_sweep.specs.inside.Strips.{begins_in, meets_partly}
use Rattle.touch_sweep.specs.inside.Splits.{begins_inside, ends_inside, work_in}
use Rattle.touch_sweep.specs.declared.numbered.Numbered.{Numbered}

-- ---- how many entries pass a test

bit_or : (p q r : Bool) → (p ≡ true → (q ≡ true) ⊎ (r ≡ true)) → cond p 1 0 ≤ cond q 1 0 + cond r 1 0
bit_or false q r h = omega arith
bit_or true true r h = omega arith
bit_or true false true h = omega arith
bit_or true false false h = elim (h refl) [ inl e ↦ absurd (cc) | inr e ↦ absurd (cc) ]

bit_two : (p q r : Bool) → (p ≡ true → q ≡ true → ⊥) → (p ≡ true → r ≡ true) → (q ≡ true → r ≡ true) → cond p 1 0 + cond q 1 0 ≤ cond r 1 0
bit_two false false r both f g = omega arith
bit_two true true r both f g = absurd (both refl refl)
bit_two true false true both f g = omega arith
bit_two true false false both f g = absurd (let e = f refl in cc)
bit_two false true true both f g = omega arith
bit_two false true false both f g = absurd (let e = g refl in cc)

module _ {X : Type 0} where
  passing : (p : X → Bool) (x : X) (xs : List X) → length (filter p (x ∷ xs)) ≡ cond (p x) 1 0 + length (filter p xs)
  passing p x xs = at (p x) (filter p xs)
    where
      at : (b : Bool) (ys : List X) → length (cond b (x ∷ ys) ys) ≡ cond b 1 0 + length ys
      at true ys = omega arith
      at false ys = omega arith

  filter_or : (p q r : X → Bool) → ((x : X) → p x ≡ true → (q x ≡ true) ⊎ (r x ≡ true)) → (xs : List X) → length (filter p xs) ≤ length (filter q xs) + length (filter r xs)
  filter_or p q r h [] = omega arith
  filter_or p q r h (x ∷ xs) =
      let a = passing p x xs in let b = passing q x xs in let c = passing r x xs in
      let here = bit_or (p x) (q x) (r x) (h x) in let rest = filter_or p q r h xs in omega arith

  filter_two : (p q r : X → Bool) → ((x : X) → p x ≡ true → q x ≡ true → ⊥) → ((x : X) → p x ≡ true → r x ≡ true) → ((x : X) → q x ≡ true → r x ≡ true) → (xs : List X)
      → length (filter p xs) + length (filter q xs) ≤ length (filter r xs)
  filter_two p q r both f g [] = omega arith
  filter_two p q r both f g (x ∷ xs) =
      let a = passing p x xs in let b = passing q x xs in let c = passing r x xs in
      let here = bit_two (p x) (q x) (r x) (both x) (f x) (g x) in let rest = filter_two p q r both f g xs in omega arith

  pub filter_few : (p : X → Bool) (xs : List X) → length (filter p xs) ≤ length xs
  filter_few p [] = omega arith
  filter_few p (x ∷ xs) = let a = passing p x xs in let here = bit_or (p x) true true (λ e. inl refl) in let rest = filter_few p xs in at (p x) (length (filter p xs)) a rest
    where
      at : (b : Bool) (n : ℕ) → length (filter p (x ∷ xs)) ≡ cond b 1 0 + n → n ≤ length xs → length (filter p (x ∷ xs)) ≤ length (x ∷ xs)
      at true n e less = omega arith
      at false n e less = omega arith

  filter_again : (p q : X → Bool) (xs : List X) → length (filter p (filter q xs)) ≤ length (filter p xs)
  filter_again p q [] = omega arith
  filter_again p q (x ∷ xs) = let a = passing p x xs in let rest = filter_again p q xs in let here = at (q x) (filter q xs) in omega arith
    where
      at : (b : Bool) (ys : List X) → length (filter p (cond b (x ∷ ys) ys)) ≤ cond (p x) 1 0 + length (filter p ys)
      at true ys = let e = passing p x ys in omega arith
      at false ys = omega arith

-- ---- entries of a strip

module _ (low high : ℤ) where
  -- each span that meets the columns in part has a side there
  pub partly_few : (spans : List Numbered) → length (filter (meets_partly low high) spans) ≤ length (filter (begins_inside low high) spans) + length (filter (ends_inside low high) spans)
  partly_few = filter_or (meets_partly low high) (begins_inside low high) (ends_inside low high) has_side
    where
      has_side : (e : Numbered) → meets_partly low high e ≡ true → (begins_inside low high e ≡ true) ⊎ (ends_inside low high e ≡ true)
      has_side e t = elim (cases_Bool (begins_inside low high e)) [ inl b ↦ inl b | inr b ↦ inr (grind (arith, ints)) ]

  module _ (middle : ℤ) (above : low ≤ℤ middle) (below : middle ≤ℤ high) where
    begins_halves : (points : List Numbered) → length (filter (begins_in low middle) points) + length (filter (begins_in middle high) points) ≤ length (filter (begins_in low high) points)
    begins_halves = filter_two _ _ _ (λ e a b. grind (arith, ints)) (λ e a. grind (arith, ints)) (λ e a. grind (arith, ints))

    inside_halves : (spans : List Numbered) → length (filter (begins_inside low middle) spans) + length (filter (begins_inside middle high) spans) ≤ length (filter (begins_inside low high) spans)
    inside_halves = filter_two _ _ _ (λ e a b. grind (arith, ints)) (λ e a. grind (arith, ints)) (λ e a. grind (arith, ints))

    ends_halves : (spans : List Numbered) → length (filter (ends_inside low middle) spans) + length (filter (ends_inside middle high) spans) ≤ length (filter (ends_inside low high) spans)
    ends_halves = filter_two _ _ _ (λ e a b. grind (arith, ints)) (λ e a. grind (arith, ints)) (λ e a. grind (arith, ints))

    -- what is to be done in the halves is no more than what was
    work_halves : (points spans : List Numbered) → work_in low middle points spans + work_in middle high points spans ≤ work_in low high points spans
    work_halves points spans = let p = begins_halves points in let b = inside_halves spans in let e = ends_halves spans in omega arith

    points_halves : (points : List Numbered) → length (filter (begins_in low middle) points) + length (filter (begins_in middle high) points) ≤ length points
    points_halves points = let h = begins_halves points in let f = filter_few (begins_in low high) points in omega arith

pub work_all : (low high : ℤ) (entries : List Numbered) → work_in low high entries entries ≤ 3 * length entries
work_all low high entries =
    let a = filter_few (begins_in low high) entries in let b = filter_few (begins_inside low high) entries in let c = filter_few (ends_inside low high) entries in omega arith

module _ (low high : ℤ) (points spans inner partly : List Numbered) (inner_is : inner ≡ filter (begins_in low high) points) (partly_is : partly ≡ filter (meets_partly low high) spans) where
  -- what a strip has itself
  pub own_few : length inner + length partly ≤ work_in low high points spans
  own_few =
      let p = ap (λ (xs : List Numbered). length xs) inner_is in
      let s = ap (λ (xs : List Numbered). length xs) partly_is in let h = partly_few low high spans in omega arith

  -- what is left to do there
  pub work_left : work_in low high inner partly ≤ work_in low high points spans
  work_left = rw (inner_is, partly_is) fewer
    where
      fewer : work_in low high (filter (begins_in low high) points) (filter (meets_partly low high) spans) ≤ work_in low high points spans
      fewer =
          let p = filter_again (begins_in low high) (begins_in low high) points in
          let b = filter_again (begins_inside low high) (meets_partly low high) spans in
          let e = filter_again (ends_inside low high) (meets_partly low high) spans in
          omega arith

module _ (low high left_low left_high right_low right_high : ℤ) (begins_is : left_low ≡ low) (meets_is : left_high ≡ right_low) (ends_is : right_high ≡ high)
    (between : (low ≤ℤ left_high) × (left_high ≤ℤ high)) (points : List Numbered) where
  pub work_parted : (spans : List Numbered) → work_in left_low left_high points spans + work_in right_low right_high points spans ≤ work_in low high points spans
  work_parted spans = rw (begins_is, ← meets_is, ends_is) (work_halves low high left_high between.0 between.1 points spans)

  pub points_parted : (left right : List Numbered) → left ≡ filter (begins_in left_low left_high) points → right ≡ filter (begins_in right_low right_high) points
      → length left + length right ≤ length points
  points_parted left right left_is right_is = rw (left_is, right_is, begins_is, ← meets_is, ends_is) (points_halves low high left_high between.0 between.1 points)

-- columns in which an entry begins
pub some_column : (low high : ℤ) (entries : List Numbered) → 0 < length entries → All (λ e. IsIn low high e.rect.x0) entries → low ≤ℤ high
some_column low high [] some all = absurd (omega arith)
some_column low high (e ∷ es) some all =
    let h = All-contains (λ e. IsIn low high e.rect.x0) (e ∷ es) e all (Contains-head e es) in
    let a = h.from in let b = h.before in omega (arith, ints)

-- ---- how many pairs there are, by the work and the levels of halves

mul_grows : (n a b : ℕ) → a ≤ b → n * a ≤ n * b
mul_grows zero a b less = omega arith
mul_grows (suc n) a b less = let h = mul_grows n a b less in omega arith

-- of a strip with so many splits, points and spans the list has few pairs more, by the work that there is
abbrev pub AreFew : ℕ → ℕ → ℕ → ℕ → ℕ → ℕ → Type 0
AreFew splits points spans work old new = (levels : ℕ) → splits ≤ 2 ^ levels → new ≤ old + 16 * (levels * work + points + spans)

-- of few points
pub few_swept : {E : Type 0} (result : Result (Unit {0}) E) (splits points spans work old new : ℕ) → points ≤ 16
    → OnOk result (new ≤ old + points * spans) → OnOk result (AreFew splits points spans work old new)
few_swept (Ok u) splits points spans work old new few s = λ levels l. let h = mul-le points spans 16 spans few (omega arith) in omega arith
few_swept (Err e) splits points spans work old new few s = tt

-- of two halves, each of which has half of the splits and so a level less
module _ (splits points spans work before before_points before_spans before_work behind behind_points behind_spans behind_work : ℕ) (some : 1 < splits)
    (half : 2 * before ≤ splits + 1) (other_half : 2 * behind ≤ splits + 1) (parted : before_points + behind_points ≤ points) (left right : ℕ) (less : left + right ≤ work)
    (own : before_points + before_spans ≤ left) (other_own : behind_points + behind_spans ≤ right) (smaller : before_work ≤ left) (other_smaller : behind_work ≤ right)
    (old first second third new : ℕ) (across : first ≤ old + 7 * before_points + 3 * spans) (other_across : second ≤ first + 7 * behind_points + 3 * spans)
    (f : AreFew before before_points before_spans before_work second third) where
  halves_few : AreFew behind behind_points behind_spans behind_work third new → AreFew splits points spans work old new
  halves_few g zero few = absurd (omega arith)
  halves_few g (suc l) few =
      let d : 2 ^ suc l ≡ 2 * 2 ^ l = omega arith in
      let u = f l (omega arith) in let v = g l (omega arith) in
      let h = mul_grows l (before_work + behind_work) work (omega arith) in
      let e : l * (before_work + behind_work) ≡ l * before_work + l * behind_work = omega arith in
      let k : suc l * work ≡ work + l * work = omega arith in
      omega arith

  pub few_in_halves : {E : Type 0} (result : Result (Unit {0}) E) → OnOk result (AreFew behind behind_points behind_spans behind_work third new) → OnOk result (AreFew splits points spans work old new)
  few_in_halves (Ok u) g = halves_few g
  few_in_halves (Err e) g = tt

-- of all entries
pub few_of_all : {E : Type 0} (result : Result (Unit {0}) E) (splits count points spans work old across new : ℕ) → points ≤ count → spans ≤ count → work ≤ 3 * count
    → across ≤ old + 7 * points + 3 * count → OnOk result (AreFew splits points spans work across new)
    → OnOk result ((levels : ℕ) → splits ≤ 2 ^ levels → new ≤ old + 51 * count * (levels + 1))
few_of_all (Ok u) splits count points spans work old across new p s less a f = λ levels few.
    let g = f levels few in let h = mul_grows levels work (3 * count) less in omega arith
few_of_all (Err e) splits count points spans work old across new p s less a f = tt

-- ---- sweeps

-- one of so many points is done, and was paired with each span at most
pub one_fewer : (points later spans total pairs pairs' : ℕ) → points ≡ suc later → pairs' ≤ pairs + spans → pairs + points * spans ≤ total → pairs' + later * spans ≤ total
one_fewer points later spans total pairs pairs' e more few =
    let f : points * spans ≡ suc later * spans = ap (λ n. n * spans) e in
    let g : suc later * spans ≡ spans + later * spans = omega arith in omega arith

pub one_fewer_other : (spans later points total pairs pairs' : ℕ) → spans ≡ suc later → pairs' ≤ pairs + points → pairs + points * spans ≤ total → pairs' + points * later ≤ total
one_fewer_other spans later points total pairs pairs' e more few =
    let f : points * spans ≡ points * suc later = ap (λ n. points * n) e in
    let g : points * suc later ≡ points + points * later = omega arith in omega arith
