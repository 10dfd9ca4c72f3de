-- what a rectangle has in common with a skyline
use Rattle.std.proofs.Common.{List, [], arith, inl, inr, subst, sym, ◌++◌, ◌∷◌, ◌≡◌, All, Contains, ℤ, ◌≤ℤ◌, ◌<ℤ◌, ◌↔◌, ap, length, length-append}
use Rattle.lists.proofs.Words.{ints, by_lt_z, All-push}
use Rattle.geo_core.specs.Plane.{Has, IsIn, IsInUnion}
use Rattle.geo_core.specs.declared.plane.Cell.{Cell}
use Rattle.geo_core.specs.declared.plane.Rect.{Rect}
use Rattle.skyline_runs.specs.inside.Skylines.{GainsCommon, HaveSides, IsActiveIn, IsActiveOver, IsBelow, IsCommonFrom, IsSkyline, IsUnder}
use Rattle.skyline_runs.specs.declared.skyline.Skyline.{Skyline}
use Rattle.skyline_runs.proofs.Primitives.{over_column}
use Rattle.fault_model.proofs.UnionLaws.{union_push}

-- what a rectangle has in common with one that begins no higher begins where it begins
common_level : (active rect part : Rect) → active.y0 ≤ℤ rect.y0 → ((c : Cell) → Has part c ↔ (Has active c × Has rect c)) → part.y0 ≡ rect.y0
common_level active rect part low same =
    let some = part.across.some in let also = part.up.some in let up = rect.up.some in
    let corner : Has part (record { i = part.x0; j = part.y0 }) = record {
      across = record { from = omega (arith, ints); before = some };
      up = record { from = omega (arith, ints); before = also };
    } in
    let both = (same (record { i = part.x0; j = part.y0 })).0 corner in
    let a = both.0.up.before in let b = both.1.up.from in
    let in_active : Has active (record { i = part.x0; j = rect.y0 }) = record { across = both.0.across; up = record { from = low; before = omega (arith, ints) } } in
    let in_rect : Has rect (record { i = part.x0; j = rect.y0 }) = record { across = both.1.across; up = record { from = omega (arith, ints); before = up } } in
    let back = (same (record { i = part.x0; j = rect.y0 })).1 (in_active, in_rect) in
    let d = back.up.from in
    omega (arith, ints)

corner : (rect : Rect) → Has rect (record { i = rect.x0; j = rect.y0 })
corner rect = let some = rect.across.some in let up = rect.up.some in record {
  across = record { from = omega (arith, ints); before = some };
  up = record { from = omega (arith, ints); before = up };
}

-- what two rectangles have in common begins in the first column of one of the two
common_left : (a b part : Rect) (xs : List ℤ) → ((c : Cell) → Has part c ↔ (Has a c × Has b c)) → Contains xs a.x0
    → Contains xs b.x0 → Contains xs part.x0
common_left a b part xs same in_a in_b =
    let both = (same (record { i = part.x0; j = part.y0 })).0 (corner part) in
    let l = both.0.across.from in let m = both.1.across.from in let p = both.0.across.before in let q = both.1.across.before in
    by_lt_z a.x0 b.x0
    (λ less.
    let from_a : Has a (record { i = b.x0; j = part.y0 }) = record {
      across = record { from = omega (arith, ints); before = omega (arith, ints) };
      up = both.0.up;
    } in
    let from_b : Has b (record { i = b.x0; j = part.y0 }) = record {
      across = record { from = omega (arith, ints); before = omega (arith, ints) };
      up = both.1.up;
    } in
    let back = ((same (record { i = b.x0; j = part.y0 })).1 (from_a, from_b)).across.from in
    let e : b.x0 ≡ part.x0 = omega (arith, ints) in subst (Contains xs) e in_b)
    (λ up.
    let from_a : Has a (record { i = a.x0; j = part.y0 }) = record {
      across = record { from = omega (arith, ints); before = omega (arith, ints) };
      up = both.0.up;
    } in
    let from_b : Has b (record { i = a.x0; j = part.y0 }) = record {
      across = record { from = omega (arith, ints); before = omega (arith, ints) };
      up = both.1.up;
    } in
    let back = ((same (record { i = a.x0; j = part.y0 })).1 (from_a, from_b)).across.from in
    let e : a.x0 ≡ part.x0 = omega (arith, ints) in subst (Contains xs) e in_a)

-- the part ends no farther to the right than a rectangle that has it
ends_within : (a part : Rect) → ((c : Cell) → Has part c → Has a c) → part.x1 ≤ℤ a.x1
ends_within a part within =
    let p = (within (record { i = part.x0; j = part.y0 }) (corner part)).across.before in let rows = (corner part).up in
    by_lt_z a.x1 part.x1
    (λ less.
    let c : Has part (record { i = a.x1; j = part.y0 }) = record {
      across = record { from = omega (arith, ints); before = less };
      up = rows;
    } in
    let q = (within (record { i = a.x1; j = part.y0 }) c).across.before in absurd (omega (arith, ints)))
    (λ up. up)

-- and it ends behind the last column of one of the two
common_right : (a b part : Rect) (xs : List ℤ) → ((c : Cell) → Has part c ↔ (Has a c × Has b c)) → Contains xs a.x1
    → Contains xs b.x1 → Contains xs part.x1
common_right a b part xs same in_a in_b =
    let both = (same (record { i = part.x0; j = part.y0 })).0 (corner part) in let some = part.across.some in
    let l = both.0.across.from in let m = both.1.across.from in
    let before_a = ends_within a part (λ c h. ((same c).0 h).0) in let before_b = ends_within b part (λ c h. ((same c).0 h).1) in
    by_lt_z part.x1 a.x1
    (λ p. by_lt_z part.x1 b.x1
    (λ q.
    let from_a : Has a (record { i = part.x1; j = part.y0 }) = record {
      across = record { from = omega (arith, ints); before = p };
      up = both.0.up;
    } in
    let from_b : Has b (record { i = part.x1; j = part.y0 }) = record {
      across = record { from = omega (arith, ints); before = q };
      up = both.1.up;
    } in
    let back = ((same (record { i = part.x1; j = part.y0 })).1 (from_a, from_b)).across.before in absurd (omega (arith, ints)))
    (λ q. let e : b.x1 ≡ part.x1 = omega (arith, ints) in subst (Contains xs) e in_b))
    (λ p. let e : a.x1 ≡ part.x1 = omega (arith, ints) in subst (Contains xs) e in_a)

pub common_gained : (old new : List Rect) (active rect part : Rect) → active.y0 ≤ℤ rect.y0 → ((c : Cell) → Has part c ↔ (Has active c × Has rect c)) → new ≡ old ++ part ∷ []
    → GainsCommon old new active rect
common_gained old new active rect part low same more = record {
  level = λ all. subst (All (λ (p : Rect). p.y0 ≡ rect.y0)) (sym more) (All-push (λ (p : Rect). p.y0 ≡ rect.y0) old part all (common_level active rect part low same));
  cells = λ c. (
    λ u. elim ((union_push c old part).0 (subst (λ (ps : List Rect). IsInUnion ps c) more u)) [ inl v ↦ inl v | inr h ↦ inr ((same c).0 h) ],
    λ k. subst (λ (ps : List Rect). IsInUnion ps c) (sym more) ((union_push c old part).1 (elim k [ inl v ↦ inl v | inr h ↦ inr ((same c).1 h) ])),
  );
  sides = λ xs all a b d e. subst (λ (ps : List Rect). HaveSides xs ps) (sym more)
      (All-push (λ (p : Rect). Contains xs p.x0 × Contains xs p.x1) old part all
      (common_left active rect part xs same a d, common_right active rect part xs same b e));
  one = let long = ap (λ (ps : List Rect). length ps) more in let push = length-append old (part ∷ []) in omega arith;
}

-- of the cells of the rectangle the skyline has those under active rectangles alone
active_has : (s : Skyline) (rect : Rect) → IsBelow rect.y0 s → (c : Cell) → Has rect c → (u : IsUnder s c) → IsActiveIn s u.rect
active_has s rect below c has u = elim u.part [
  | inl at ↦ at
  | inr done ↦ let a = below.ended u.rect done in let b = u.has.up.before in let d = has.up.from in absurd (omega (arith, ints))
]

pub common_more : (s : Skyline) (rect active : Rect) (column column' : ℤ) (old new : List Rect) → IsSkyline s → IsBelow rect.y0 s → IsCommonFrom s rect column old → IsActiveIn s active
    → ((x : ℤ) → IsIn active.x1 column x → IsActiveOver s x → ⊥) → GainsCommon old new active rect → column' ≡ active.x0 → IsCommonFrom s rect column' new
common_more s rect active column column' old new sound below h at behind gain e = record {
  level = gain.level h.level;
  cells = λ c u. elim ((gain.cells c).0 u) [
    | inl v ↦ h.cells c v
    | inr both ↦ (record { rect = active; part = inl at; has = both.0 }, both.1)
  ];
  from = λ c from u has. by_lt_z c.i column
      (λ l. by_lt_z c.i active.x1
      (λ m.
      let q = active_has s rect below c has u in
      let over : IsIn active.x0 active.x1 c.i = record { from = omega (arith, ints); before = m } in
      let same = sound.one_over u.rect active c.i q at u.has.across over in
      (gain.cells c).1 (inr (subst (λ (r : Rect). Has r c) same u.has, has)))
      (λ m. absurd (behind c.i (record { from = m; before = l }) (over_column s u.rect c (active_has s rect below c has u) u.has))))
      (λ l. (gain.cells c).1 (inl (h.from c l u has)));
}

-- nothing that is active comes before the column
pub all_common : (s : Skyline) (rect : Rect) (column : ℤ) (parts : List Rect) → IsBelow rect.y0 s → IsCommonFrom s rect column parts → ((x : ℤ) → x <ℤ column → IsActiveOver s x → ⊥)
    → (c : Cell) → IsInUnion parts c ↔ (IsUnder s c × Has rect c)
all_common s rect column parts below h none c = (
  h.cells c,
  λ k. by_lt_z c.i column
      (λ l. absurd (none c.i l (over_column s k.0.rect c (active_has s rect below c k.1 k.0) k.0.has)))
      (λ l. h.from c l k.0 k.1),
)

-- the rectangle has no columns before the column
pub common_done : (s : Skyline) (rect : Rect) (column : ℤ) (parts : List Rect) → IsCommonFrom s rect column parts → column ≤ℤ rect.x0 → (c : Cell) → IsInUnion parts c ↔ (IsUnder s c × Has rect c)
common_done s rect column parts h past c = (h.cells c, λ k. let a = k.1.across.from in h.from c (omega (arith, ints)) k.0 k.1)
