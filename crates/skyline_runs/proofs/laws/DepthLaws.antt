-- laws of how many rectangles of a list have a cell
use Rattle.std.proofs.Common.{List, [], arith, ap, inl, inr, refl, subst, suc, sym, zero, ℕ, ◌<◌, ◌∷◌, ◌≡◌, ◌≤◌, true, false, cond, ℤ, ◌≤ℤ◌, ◌<ℤ◌, int_le, int_lt, ◌&&◌, Some, slice_get}
use Rattle.lists.proofs.Words.{ints, cases_Bool, and_parts, sum_by-cons, slice_get_within}
use Rattle.std.specs.Cmp.Derive.{both_true}
use Rattle.geo_core.specs.Plane.{Has, IsInUnion}
use Rattle.geo_core.specs.declared.plane.Cell.{Cell}
use Rattle.geo_core.specs.declared.plane.Rect.{Rect}
use Rattle.skyline_runs.specs.Runs.{IsInTwo}
use Rattle.skyline_runs.specs.Depths.{has_cell, depth_of}

-- ---- tests of whole numbers

pub le_true : (a b : ℤ) → a ≤ℤ b → int_le a b ≡ true
le_true a b h = grind (arith, ints)

pub lt_true : (a b : ℤ) → a <ℤ b → int_lt a b ≡ true
lt_true a b h = grind (arith, ints)

pub le_false : (a b : ℤ) → b <ℤ a → int_le a b ≡ false
le_false a b h = grind (arith, ints)

pub lt_false : (a b : ℤ) → b ≤ℤ a → int_lt a b ≡ false
lt_false a b h = grind (arith, ints)

pub from_le : (a b : ℤ) → int_le a b ≡ true → a ≤ℤ b
from_le a b e = grind (arith, ints)

pub from_lt : (a b : ℤ) → int_lt a b ≡ true → a <ℤ b
from_lt a b e = grind (arith, ints)

-- ---- the test of a cell

module _ (c : Cell) where
  pub has_so : (rect : Rect) → Has rect c → has_cell c rect ≡ true
  has_so rect h = both_true
      (both_true (le_true rect.x0 c.i h.across.from) (lt_true c.i rect.x1 h.across.before))
      (both_true (le_true rect.y0 c.j h.up.from) (lt_true c.j rect.y1 h.up.before))

  pub has_from : (rect : Rect) → has_cell c rect ≡ true → Has rect c
  has_from rect e =
      let both = and_parts (int_le rect.x0 c.i && int_lt c.i rect.x1) (int_le rect.y0 c.j && int_lt c.j rect.y1) e in
      let across = and_parts (int_le rect.x0 c.i) (int_lt c.i rect.x1) both.0 in
      let up = and_parts (int_le rect.y0 c.j) (int_lt c.j rect.y1) both.1 in
      record {
        across = record { from = from_le rect.x0 c.i across.0; before = from_lt c.i rect.x1 across.1 };
        up = record { from = from_le rect.y0 c.j up.0; before = from_lt c.j rect.y1 up.1 };
      }

  pub has_not : (rect : Rect) → (Has rect c → ⊥) → has_cell c rect ≡ false
  has_not rect n = elim (cases_Bool (has_cell c rect)) [ inl t ↦ absurd (n (has_from rect t)) | inr f ↦ f ]

  -- 1 for a rectangle that has the cell, and 0 for any other
  abbrev pub weight : Rect → ℕ
  weight rect = cond (has_cell c rect) 1 0

  pub weight_so : (rect : Rect) → Has rect c → weight rect ≡ 1
  weight_so rect h = ap (λ b. cond b 1 0) (has_so rect h)

  pub weight_not : (rect : Rect) → (has_cell c rect ≡ false) → weight rect ≡ 0
  weight_not rect f = ap (λ b. cond b 1 0) f

  later : (x : Rect) (xs : List Rect) → IsInUnion xs c → IsInUnion (x ∷ xs) c
  later x xs u = record { number = suc u.number; rect = u.rect; at = u.at; has = u.has }

  later_two : (x : Rect) (xs : List Rect) → IsInTwo xs c → IsInTwo (x ∷ xs) c
  later_two x xs t = let d = t.differ in record {
    first = suc t.first;
    second = suc t.second;
    differ = omega arith;
    one = t.one;
    other = t.other;
    one_at = t.one_at;
    other_at = t.other_at;
    one_has = t.one_has;
    other_has = t.other_has;
  }

  pub union_from_depth : (xs : List Rect) → 1 ≤ depth_of xs c → IsInUnion xs c
  union_from_depth [] some = absurd (omega arith)
  union_from_depth (x ∷ xs) some = elim (cases_Bool (has_cell c x)) [
    | inl t ↦ record { number = 0; rect = x; at = refl; has = has_from x t }
    | inr f ↦ let w = weight_not x f in later x xs (union_from_depth xs (omega (arith, sum_by-cons weight x xs)))
  ]

  pub two_from_depth : (xs : List Rect) → 2 ≤ depth_of xs c → IsInTwo xs c
  two_from_depth [] some = absurd (omega arith)
  two_from_depth (x ∷ xs) some = elim (cases_Bool (has_cell c x)) [
    | inl t ↦
        let h = has_from x t in
        let w = weight_so x h in
        let u = union_from_depth xs (omega (arith, sum_by-cons weight x xs)) in
        record {
          first = 0;
          second = suc u.number;
          differ = omega arith;
          one = x;
          other = u.rect;
          one_at = refl;
          other_at = u.at;
          one_has = h;
          other_has = u.has;
        }
    | inr f ↦ let w = weight_not x f in later_two x xs (two_from_depth xs (omega (arith, sum_by-cons weight x xs)))
  ]

  pub depth_from_union : (xs : List Rect) (k : ℕ) (r : Rect) → slice_get xs k ≡ Some r → Has r c → 1 ≤ depth_of xs c
  depth_from_union [] k r at h = absurd (let small = slice_get_within [] k r at in omega arith)
  depth_from_union (x ∷ xs) zero r at h =
      let same : x ≡ r = cc in
      let w = weight_so x (subst (λ (q : Rect). Has q c) (sym same) h) in
      omega (arith, sum_by-cons weight x xs)
  depth_from_union (x ∷ xs) (suc k) r at h = let some = depth_from_union xs k r at h in omega (arith, sum_by-cons weight x xs)

  depth_from_two : (xs : List Rect) (j k : ℕ) (a b : Rect) → j < k → slice_get xs j ≡ Some a → slice_get xs k ≡ Some b → Has a c → Has b c → 2 ≤ depth_of xs c
  depth_from_two [] j k a b less a_at b_at h g = absurd (let small = slice_get_within [] k b b_at in omega arith)
  depth_from_two (x ∷ xs) j zero a b less a_at b_at h g = absurd (omega arith)
  depth_from_two (x ∷ xs) zero (suc k) a b less a_at b_at h g =
      let same : x ≡ a = cc in
      let w = weight_so x (subst (λ (q : Rect). Has q c) (sym same) h) in
      let some = depth_from_union xs k b b_at g in
      omega (arith, sum_by-cons weight x xs)
  depth_from_two (x ∷ xs) (suc j) (suc k) a b less a_at b_at h g =
      let some = depth_from_two xs j k a b (omega arith) a_at b_at h g in omega (arith, sum_by-cons weight x xs)

  pub depth_of_two : (xs : List Rect) → IsInTwo xs c → 2 ≤ depth_of xs c
  depth_of_two xs t = depth_from_two xs t.first t.second t.one t.other t.differ t.one_at t.other_at t.one_has t.other_has

  pub two_none : IsInTwo [] c → ⊥
  two_none t = let small = slice_get_within [] t.first t.one t.one_at in absurd (omega arith)
