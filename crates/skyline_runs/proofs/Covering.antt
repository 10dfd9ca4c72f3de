-- rectangles that are added to a skyline one after the other
use Rattle.std.proofs.Common.{List, [], ap, arith, get_or, inl, inr, length, subst, sym, take, take_all, ℕ, ◌+◌, ◌<◌, ◌≡◌, ◌≤◌, ◌⊎◌, All, Contains, Some, slice_get, ℤ, ◌≤ℤ◌, ◌↔◌}
use Rattle.lists.proofs.Words.{ints, All-get_or, get_or_from_slice_get, slice_get_within}
use Rattle.geo_core.specs.Plane.{Has, IsInUnion}
use Rattle.geo_core.specs.declared.plane.Cell.{Cell}
use Rattle.geo_core.specs.declared.plane.Rect.{Rect}
use Rattle.skyline_runs.specs.Runs.{AreByRow}
use Rattle.skyline_runs.specs.inside.Skylines.{HaveSides, IsBelow, IsSkyline, IsUnder}
use Rattle.skyline_runs.specs.declared.skyline.Skyline.{Skyline}
use Rattle.fault_model.proofs.UnionLaws.{union_more, union_none}

below_higher : (row higher : ℤ) (s : Skyline) → row ≤ℤ higher → IsBelow row s → IsBelow higher s
below_higher row higher s up h = record {
  begun = λ q at. let a = h.begun q at in omega (arith, ints);
  ended = λ q done. let a = h.ended q done in omega (arith, ints);
}

-- ---- rectangles that begin in one row

pub record IsAddedAll (old now : Skyline) (rect : Rect) (parts : List Rect) : Type 0 where
  pub sound : IsSkyline now
  pub below : IsBelow rect.y0 now
  pub cells : (c : Cell) → IsUnder now c ↔ (IsUnder old c ⊎ IsInUnion parts c)

pub none_yet : (s : Skyline) (rect : Rect) → IsSkyline s → IsBelow rect.y0 s → IsAddedAll s s rect []
none_yet s rect sound below = record { sound = sound; below = below; cells = λ c. (λ u. inl u, λ k. elim k [ inl u ↦ u | inr v ↦ absurd (union_none c v) ]) }

pub one_level : (parts : List Rect) (i : ℕ) (part rect : Rect) → i < length parts → part ≡ get_or parts i part → All (λ (p : Rect). p.y0 ≡ rect.y0) parts → part.y0 ≡ rect.y0
one_level parts i part rect small is all = subst (λ (p : Rect). p.y0 ≡ rect.y0) (sym is) (All-get_or (λ (p : Rect). p.y0 ≡ rect.y0) parts i part small all)

pub one_sides : (xs : List ℤ) (parts : List Rect) (i : ℕ) (part : Rect) → i < length parts → part ≡ get_or parts i part → HaveSides xs parts
    → Contains xs part.x0 × Contains xs part.x1
one_sides xs parts i part small is all = subst (λ (p : Rect). Contains xs p.x0 × Contains xs p.x1) (sym is)
    (All-get_or (λ (p : Rect). Contains xs p.x0 × Contains xs p.x1) parts i part small all)

pub level_below : (part rect : Rect) (s : Skyline) → part.y0 ≡ rect.y0 → IsBelow rect.y0 s → IsBelow part.y0 s
level_below part rect s e = subst (λ (z : ℤ). IsBelow z s) (sym e)

pub one_more : (old now new : Skyline) (rect : Rect) (parts : List Rect) (i : ℕ) (part : Rect) → i < length parts → part ≡ get_or parts i part → part.y0 ≡ rect.y0
    → IsAddedAll old now rect (take i parts)
    → IsSkyline new → IsBelow part.y0 new → ((c : Cell) → IsUnder new c ↔ (IsUnder now c ⊎ Has part c)) → IsAddedAll old new rect (take (i + 1) parts)
one_more old now new rect parts i part small is e h sound below cells = record {
  sound = sound;
  below = subst (λ (z : ℤ). IsBelow z new) e below;
  cells = λ c. (
    λ u. elim ((cells c).0 u) [
      | inl v ↦ elim ((h.cells c).0 v) [ inl w ↦ inl w | inr k ↦ inr ((union_more c parts i part small is).1 (inl k)) ]
      | inr k ↦ inr ((union_more c parts i part small is).1 (inr k))
    ],
    λ k. (cells c).1 (elim k [
      | inl w ↦ inl ((h.cells c).1 (inl w))
      | inr v ↦ elim ((union_more c parts i part small is).0 v) [ inl l ↦ inl ((h.cells c).1 (inr l)) | inr l ↦ inr l ]
    ]),
  );
}

pub all_of_them : (old now : Skyline) (rect : Rect) (parts : List Rect) (i : ℕ) → length parts ≤ i → IsAddedAll old now rect (take i parts) → (c : Cell)
    → IsUnder now c ↔ (IsUnder old c ⊎ IsInUnion parts c)
all_of_them old now rect parts i past h c = subst (λ (ps : List Rect). IsUnder now c ↔ (IsUnder old c ⊎ IsInUnion ps c)) (take_all i parts past) (h.cells c)

-- ---- rectangles in the order of their lowest rows

-- the skyline has the cells of the first so many rectangles, and none of the others begins lower
pub record IsUnionTo (s : Skyline) (rects : List Rect) (i : ℕ) : Type 0 where
  pub sound : IsSkyline s
  pub cells : (c : Cell) → IsUnder s c ↔ IsInUnion (take i rects) c
  pub below : (k : ℕ) (rect : Rect) → i ≤ k → slice_get rects k ≡ Some rect → IsBelow rect.y0 s

pub union_begun : (s : Skyline) (rects : List Rect) → IsSkyline s → ((row : ℤ) → IsBelow row s) → ((c : Cell) → IsUnder s c → ⊥) → IsUnionTo s rects 0
union_begun s rects sound below none = record {
  sound = sound;
  cells = λ c. (λ u. absurd (none c u), λ u. absurd (union_none c u));
  below = λ k rect up at. below rect.y0;
}

-- what begins no higher than one rectangle begins no higher than those behind it
pub below_next : (rects : List Rect) (i k : ℕ) (x rect : Rect) (s : Skyline) → AreByRow rects → i < length rects → x ≡ get_or rects i x → i + 1 ≤ k
    → slice_get rects k ≡ Some rect → IsBelow x.y0 s → IsBelow rect.y0 s
below_next rects i k x rect s sorted small is up at =
    let a = sorted i k x (omega arith) (slice_get_within rects k rect at) in
    let b : x.y0 ≡ (get_or rects i x).y0 = ap (λ (r : Rect). r.y0) is in
    let d : (get_or rects k x).y0 ≡ rect.y0 = ap (λ (r : Rect). r.y0) (get_or_from_slice_get rects k rect x at) in
    below_higher x.y0 rect.y0 s (omega (arith, ints))

pub union_next : (now new : Skyline) (rects : List Rect) (i : ℕ) (x : Rect) → AreByRow rects → i < length rects → x ≡ get_or rects i x → IsUnionTo now rects i
    → IsSkyline new → IsBelow x.y0 new → ((c : Cell) → IsUnder new c ↔ (IsUnder now c ⊎ Has x c)) → IsUnionTo new rects (i + 1)
union_next now new rects i x sorted small is h sound below cells = record {
  sound = sound;
  cells = λ c. (
    λ u. (union_more c rects i x small is).1 (elim ((cells c).0 u) [ inl v ↦ inl ((h.cells c).0 v) | inr k ↦ inr k ]),
    λ u. (cells c).1 (elim ((union_more c rects i x small is).0 u) [ inl v ↦ inl ((h.cells c).1 v) | inr k ↦ inr k ]),
  );
  below = λ k rect up at. below_next rects i k x rect new sorted small is up at below;
}

pub union_all : (s : Skyline) (rects : List Rect) (i : ℕ) → length rects ≤ i → IsUnionTo s rects i → (c : Cell) → IsUnder s c ↔ IsInUnion rects c
union_all s rects i past h c = subst (λ (xs : List Rect). IsUnder s c ↔ IsInUnion xs c) (take_all i rects past) (h.cells c)
