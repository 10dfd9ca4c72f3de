-- active rectangles that are joined with their neighbours, and parts of rectangles
use Rattle.std.proofs.Common.{ap, refl, sym, subst, inl, inr, arith, of_z, to_z, w32, ◌∙◌, ◌≡◌, ◌⊎◌, ℤ, List, Contains, Some, ◌≤ℤ◌, ◌<ℤ◌, ◌↔◌}
use Rattle.std.specs.BTreeMap.{get}
use Rattle.std.specs.Ordering.{int_cmp}
use Rattle.lists.proofs.Words.{ints, by_lt_z}
use Rattle.geo_core.proofs.IntervalLaws.{IsIn-at}
use Rattle.geo_core.specs.Plane.{Has, IsIn, IsInterval}
use Rattle.geo_core.specs.declared.bounds.TheConstants.{FARTHEST_GROWN}
use Rattle.geo_core.specs.declared.plane.Cell.{Cell}
use Rattle.geo_core.specs.declared.plane.Rect.{Rect}
use Rattle.skyline_runs.specs.inside.Skylines.{Activates, HasRoom, IsActiveIn, IsActiveOver, IsDoneIn, IsInPart, IsSkyline, Joins, TakesOut}
use Rattle.skyline_runs.specs.declared.skyline.Skyline.{Skyline}
use Rattle.skyline_runs.proofs.Primitives.{from_part, in_part}

-- an interval that is cut in two
pub cut_at : (low middle high x : ℤ) → low <ℤ middle → middle <ℤ high → IsIn low high x ↔ (IsIn low middle x ⊎ IsIn middle high x)
cut_at low middle high x some also = (
  λ i. let a = i.from in let b = i.before in by_lt_z x middle (λ l. inl (record { from = a; before = l })) (λ l. inr (record { from = l; before = b })),
  λ h. elim h [
    | inl i ↦ let a = i.from in let b = i.before in record { from = a; before = omega (arith, ints) }
    | inr i ↦ let a = i.from in let b = i.before in record { from = omega (arith, ints); before = b }
  ],
)

-- what is found at a column begins there
pub active_at : (s : Skyline) (x : ℤ) (rect : Rect) → IsSkyline s → get int_cmp s.active x ≡ Some rect → IsActiveIn s rect
active_at s x rect sound at = subst (λ (z : ℤ). get int_cmp s.active z ≡ Some rect) (sym (sound.by_column x rect at)) at

-- a rectangle that is joined with none
pub joins_none : (s : Skyline) (rect : Rect) → IsSkyline s → HasRoom s rect.x0 rect.x1 rect → Joins s s rect rect
joins_none s rect sound room = record {
  sound = sound;
  room = room;
  cells = λ c. (λ u. u, λ u. u);
  columns = λ x. (λ o. o, λ o. o);
  runs = refl;
  rows = refl;
  below = λ row h. h;
  sides = λ xs s from to. (s, from, to);
}

-- the rectangle has the columns of the two others, all three in the same rows
pub record IsBoth (one other both : Rect) : Type 0 where
  pub columns : (x : ℤ) → IsIn both.x0 both.x1 x ↔ (IsIn one.x0 one.x1 x ⊎ IsIn other.x0 other.x1 x)
  pub one_low : one.y0 ≡ both.y0
  pub one_high : one.y1 ≡ both.y1
  pub other_low : other.y0 ≡ both.y0
  pub other_high : other.y1 ≡ both.y1
  pub sides : (xs : List ℤ) → Contains xs one.x0 → Contains xs one.x1 → Contains xs other.x0 → Contains xs other.x1 → Contains xs both.x0 × Contains xs both.x1

pub both_abutting : (one other both : Rect) → one.x1 ≡ other.x0 → both.x0 ≡ one.x0 → both.x1 ≡ other.x1 → one.y0 ≡ both.y0 → one.y1 ≡ both.y1 → other.y0 ≡ both.y0 → other.y1 ≡ both.y1
    → IsBoth one other both
both_abutting one other both meet left right a b d e = record {
  columns = λ x.
      let c = cut_at one.x0 one.x1 other.x1 x one.across.some (subst (λ (m : ℤ). m <ℤ other.x1) (sym meet) other.across.some) in (
        λ i. elim (c.0 (IsIn-at one.x0 other.x1 x i (sym left) (sym right) refl)) [ inl h ↦ inl h | inr h ↦ inr (IsIn-at other.x0 other.x1 x h (sym meet) refl refl) ],
        λ i. IsIn-at both.x0 both.x1 x (c.1 (elim i [ inl h ↦ inl h | inr h ↦ inr (IsIn-at one.x1 other.x1 x h meet refl refl) ])) left right refl,
      );
  one_low = a;
  one_high = b;
  other_low = d;
  other_high = e;
  sides = λ xs f g h k. (subst (λ (z : ℤ). Contains xs z) (sym left) f, subst (λ (z : ℤ). Contains xs z) (sym right) k);
}

pub both_turned : (one other both : Rect) → IsBoth one other both → IsBoth other one both
both_turned one other both h = record {
  columns = λ x. (
    λ i. elim ((h.columns x).0 i) [ inl k ↦ inr k | inr k ↦ inl k ],
    λ i. (h.columns x).1 (elim i [ inl k ↦ inr k | inr k ↦ inl k ]),
  );
  one_low = h.other_low;
  one_high = h.other_high;
  other_low = h.one_low;
  other_high = h.one_high;
  sides = λ xs f g k l. h.sides xs k l f g;
}

-- its cells are those of the two
pub has_both : (one other both : Rect) (c : Cell) → IsBoth one other both → Has both c ↔ (Has one c ⊎ Has other c)
has_both one other both c h = (
  λ k. elim ((h.columns c.i).0 k.across) [
    | inl i ↦ inl (record { across = i; up = IsIn-at one.y0 one.y1 c.j k.up h.one_low h.one_high refl })
    | inr i ↦ inr (record { across = i; up = IsIn-at other.y0 other.y1 c.j k.up h.other_low h.other_high refl })
  ],
  λ k. elim k [
    | inl i ↦ record { across = (h.columns c.i).1 (inl i.across); up = IsIn-at both.y0 both.y1 c.j i.up (sym h.one_low) (sym h.one_high) refl }
    | inr i ↦ record { across = (h.columns c.i).1 (inr i.across); up = IsIn-at both.y0 both.y1 c.j i.up (sym h.other_low) (sym h.other_high) refl }
  ],
)

-- each side of a rectangle is what its bits are read as
as_read : (low high : ℤ) → IsInterval FARTHEST_GROWN low high → (to_z w32 (of_z w32 low) ≡ low) × (to_z w32 (of_z w32 high) ≡ high)
as_read low high i = let a = i.some in let b = i.least in let d = i.most in (omega (arith, ints), omega (arith, ints))

-- two rectangles side by side, of which sides are read as bits
module _ (one other : Rect) (meet : one.x1 ≡ other.x0) where
  pub across_both : IsInterval FARTHEST_GROWN (to_z w32 (of_z w32 one.x0)) (to_z w32 (of_z w32 other.x1))
  across_both =
      let a = one.across.some in let b = other.across.some in
      rw ((as_read one.x0 one.x1 one.across).0, (as_read other.x0 other.x1 other.across).1)
      (record { some = omega (arith, ints); least = one.across.least; most = other.across.most })

  pub both_read : (both : Rect) → of_z w32 other.y0 ≡ of_z w32 one.y0 → of_z w32 other.y1 ≡ of_z w32 one.y1 → both.x0 ≡ to_z w32 (of_z w32 one.x0) → both.y0 ≡ to_z w32 (of_z w32 one.y0)
      → both.x1 ≡ to_z w32 (of_z w32 other.x1) → both.y1 ≡ to_z w32 (of_z w32 one.y1) → IsBoth one other both
  both_read both low high left bottom right top =
      let rows = as_read one.y0 one.y1 one.up in let others = as_read other.y0 other.y1 other.up in
      let one_low = sym rows.0 ∙ sym bottom in let one_high = sym rows.1 ∙ sym top in
      both_abutting one other both meet (left ∙ (as_read one.x0 one.x1 one.across).0) (right ∙ (as_read other.x0 other.x1 other.across).1) one_low one_high
      (sym others.0 ∙ (ap (to_z w32) low ∙ sym bottom)) (sym others.1 ∙ (ap (to_z w32) high ∙ sym top))

-- a neighbour that was taken out, and the rectangle, are one
module _ (old new : Skyline) (neighbour rect both : Rect) (room : HasRoom old rect.x0 rect.x1 rect) (out : TakesOut old new neighbour) (h : IsBoth neighbour rect both)
    (at : IsActiveIn old neighbour) where
  no_cell : (run : Rect) (c : Cell) → IsDoneIn new run → Has run c → Has both c → ⊥
  no_cell run c done has b = elim ((has_both neighbour rect both c h).0 b) [
    | inl k ↦ out.room.cells run c done has (in_part neighbour c k)
    | inr k ↦ room.cells run c (subst (λ qs. Contains qs run) out.runs done) has (in_part rect c k)
  ]

  no_column : (x : ℤ) → IsIn both.x0 both.x1 x → IsActiveOver new x → ⊥
  no_column x i o = elim ((h.columns x).0 i) [ inl k ↦ out.room.columns x k o | inr k ↦ room.columns x k ((out.columns x).1 (inl o)) ]

  pub joined : Joins old new rect both
  joined = record {
    sound = out.sound;
    room = record { columns = no_column; cells = λ run c done has p. no_cell run c done has (from_part both c p) };
    cells = λ c. (
      λ k. elim k [
        | inl u ↦ inl ((out.cells c).1 (inl u))
        | inr b ↦ elim ((has_both neighbour rect both c h).0 b) [ inl i ↦ inl ((out.cells c).1 (inr i)) | inr i ↦ inr i ]
      ],
      λ k. elim k [
        | inl u ↦ elim ((out.cells c).0 u) [ inl v ↦ inl v | inr i ↦ inr ((has_both neighbour rect both c h).1 (inl i)) ]
        | inr i ↦ inr ((has_both neighbour rect both c h).1 (inr i))
      ],
    );
    columns = λ x. (
      λ k. elim k [
        | inl o ↦ inl ((out.columns x).1 (inl o))
        | inr i ↦ elim ((h.columns x).0 i) [ inl j ↦ inl ((out.columns x).1 (inr j)) | inr j ↦ inr j ]
      ],
      λ k. elim k [
        | inl o ↦ elim ((out.columns x).0 o) [ inl v ↦ inl v | inr j ↦ inr ((h.columns x).1 (inl j)) ]
        | inr j ↦ inr ((h.columns x).1 (inr j))
      ],
    );
    runs = out.runs;
    rows = sym h.other_low;
    below = out.below;
    sides = λ xs s from to. let k = h.sides xs (s.begins neighbour at) (s.ends neighbour at) from to in (out.sides xs s, k.0, k.1);
  }

-- what was joined is made active
pub joined_activated : (old middle new : Skyline) (rect both : Rect) → Joins old middle rect both → Activates middle new both.x0 both.x1 both → Activates old new rect.x0 rect.x1 rect
joined_activated old middle new rect both j a = record {
  sound = a.sound;
  cells = λ c. (
    λ u. elim ((j.cells c).0 (elim ((a.cells c).0 u) [ inl v ↦ inl v | inr p ↦ inr (from_part both c p) ])) [ inl v ↦ inl v | inr h ↦ inr (in_part rect c h) ],
    λ k. (a.cells c).1 (elim ((j.cells c).1 (elim k [ inl v ↦ inl v | inr p ↦ inr (from_part rect c p) ])) [ inl v ↦ inl v | inr h ↦ inr (in_part both c h) ]),
  );
  columns = λ x. (λ o. (j.columns x).0 ((a.columns x).0 o), λ k. (a.columns x).1 ((j.columns x).1 k));
  runs = a.runs ∙ j.runs;
  below = λ row low begins. a.below row (j.below row low) (subst (λ (y : ℤ). y ≤ℤ row) (sym j.rows) begins);
  sides = λ xs s from to. let k = j.sides xs s from to in a.sides xs k.0 k.1 k.2;
}

-- a rectangle of its own in place of some columns of another one
module _ (low high : ℤ) (part rect : Rect) (left : part.x0 ≡ low) (right : part.x1 ≡ high) (bottom : part.y0 ≡ rect.y0) (top : part.y1 ≡ rect.y1) where
  pub part_of : (c : Cell) → IsInPart part.x0 part.x1 part c → IsInPart low high rect c
  part_of c p = record { across = IsIn-at low high c.i p.across (sym left) (sym right) refl; up = IsIn-at rect.y0 rect.y1 c.j p.up (sym bottom) (sym top) refl }

  pub of_part : (c : Cell) → IsInPart low high rect c → IsInPart part.x0 part.x1 part c
  of_part c p = record { across = IsIn-at part.x0 part.x1 c.i p.across left right refl; up = IsIn-at part.y0 part.y1 c.j p.up bottom top refl }

  pub room_of_part : (s : Skyline) → HasRoom s low high rect → HasRoom s part.x0 part.x1 part
  room_of_part s room = record {
    columns = λ x i. room.columns x (IsIn-at low high x i (sym left) (sym right) refl);
    cells = λ run c done has p. room.cells run c done has (part_of c p);
  }

  pub part_activated : (old new : Skyline) → Activates old new part.x0 part.x1 part → Activates old new low high rect
  part_activated old new a = record {
    sound = a.sound;
    cells = λ c. (
      λ u. elim ((a.cells c).0 u) [ inl v ↦ inl v | inr p ↦ inr (part_of c p) ],
      λ k. (a.cells c).1 (elim k [ inl v ↦ inl v | inr p ↦ inr (of_part c p) ]),
    );
    columns = λ x. (
      λ o. elim ((a.columns x).0 o) [ inl v ↦ inl v | inr i ↦ inr (IsIn-at low high x i (sym left) (sym right) refl) ],
      λ k. (a.columns x).1 (elim k [ inl v ↦ inl v | inr i ↦ inr (IsIn-at part.x0 part.x1 x i left right refl) ]),
    );
    runs = a.runs;
    below = λ row l begins. a.below row l (subst (λ (y : ℤ). y ≤ℤ row) (sym bottom) begins);
    sides = λ xs s from to. a.sides xs s (subst (λ (z : ℤ). Contains xs z) (sym left) from) (subst (λ (z : ℤ). Contains xs z) (sym right) to);
  }

-- no columns, nothing to make active
pub none_activated : (s : Skyline) (low high : ℤ) (rect : Rect) → IsSkyline s → high ≤ℤ low → Activates s s low high rect
none_activated s low high rect sound none = record {
  sound = sound;
  cells = λ c. (λ u. inl u, λ k. elim k [ inl u ↦ u | inr p ↦ let a = p.across.from in let b = p.across.before in absurd (omega (arith, ints)) ]);
  columns = λ x. (λ o. inl o, λ k. elim k [ inl o ↦ o | inr i ↦ let a = i.from in let b = i.before in absurd (omega (arith, ints)) ]);
  runs = refl;
  below = λ row l begins. l;
  sides = λ xs s from to. s;
}
