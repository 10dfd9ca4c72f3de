-- what is kept of an active rectangle that another one takes the place of
use Rattle.std.proofs.Common.{subst, inl, inr, arith, ◌∙◌, ◌≡◌, ◌⊎◌, ℤ, Contains, ◌≤ℤ◌, ◌<ℤ◌}
use Rattle.lists.proofs.Words.{ints, clamps, by_lt_z, int_max, int_min}
use Rattle.geo_core.proofs.IntervalLaws.{clipped}
use Rattle.geo_core.specs.Plane.{Has, IsIn, IsInterval}
use Rattle.geo_core.specs.declared.plane.Cell.{Cell}
use Rattle.geo_core.specs.declared.plane.Rect.{Rect}
use Rattle.skyline_runs.specs.inside.Skylines.{Activates, Finishes, FinishesLower, HasRoom, IsActiveOver, IsDoneIn, IsInLower, IsInPart, IsInRest, IsSkyline, KeepsRest}
use Rattle.skyline_runs.specs.declared.skyline.Skyline.{Skyline}
use Rattle.skyline_runs.proofs.Primitives.{from_part, in_part}

-- ---- columns and rooms by equal ends, and smaller rooms

pub activates_at : (low high low' high' : ℤ) (old new : Skyline) (rect : Rect) → Activates old new low high rect → low ≡ low' → high ≡ high' → Activates old new low' high' rect
activates_at low high low' high' old new rect a e f = subst (λ (z : ℤ). Activates old new low' z rect) f (subst (λ (z : ℤ). Activates old new z high rect) e a)

pub less_room : (s : Skyline) (low high low' high' : ℤ) (rect : Rect) → HasRoom s low high rect → low ≤ℤ low' → high' ≤ℤ high → HasRoom s low' high' rect
less_room s low high low' high' rect room a b = record {
  columns = λ x i. let d = i.from in let e = i.before in room.columns x (record { from = omega (arith, ints); before = omega (arith, ints) });
  cells = λ run c done has p.
      let d = p.across.from in let e = p.across.before in
      room.cells run c done has (record { across = record { from = omega (arith, ints); before = omega (arith, ints) }; up = p.up });
}

-- what is made active to the left leaves the room to its right
pub room_right_of : (old new : Skyline) (low high low' high' : ℤ) (rect : Rect) → Activates old new low high rect → HasRoom old rect.x0 rect.x1 rect → rect.x0 ≤ℤ low' → high ≤ℤ low'
    → high' ≤ℤ rect.x1 → HasRoom new low' high' rect
room_right_of old new low high low' high' rect a room b d e =
    let less = less_room old rect.x0 rect.x1 low' high' rect room b e in
    record {
      columns = λ x i o. elim ((a.columns x).0 o) [ inl p ↦ less.columns x i p | inr m ↦ let f = m.before in let g = i.from in absurd (omega (arith, ints)) ];
      cells = λ run c done. less.cells run c (subst (λ qs. Contains qs run) a.runs done);
    }

-- ---- what lies lower

pub lower_interval : (far a0 a1 r0 r1 end low high : ℤ) → low ≡ int_max a0 r0 → high ≡ int_min a1 end → IsInterval far a0 a1 → IsInterval far r0 r1 → a0 <ℤ end → r0 <ℤ a1 → r0 <ℤ end
    → end ≤ℤ r1 → IsInterval far low high
lower_interval far a0 a1 r0 r1 end low high e f a r p q u v =
    let b = a.some in let d = a.least in let g = a.most in
    record { some = omega (arith, ints, clamps); least = omega (arith, ints, clamps); most = omega (arith, ints, clamps) }

-- a rectangle of its own
pub record IsLowerPart (active rect : Rect) (end : ℤ) (lower : Rect) : Type 0 where
  pub left : lower.x0 ≡ int_max active.x0 rect.x0
  pub right : lower.x1 ≡ int_min active.x1 end
  pub bottom : lower.y0 ≡ active.y0
  pub top : lower.y1 ≡ rect.y0

module _ (active rect : Rect) (end : ℤ) (lower : Rect) (reaches : rect.y0 <ℤ active.y1) (h : IsLowerPart active rect end lower) where
  pub from_lower : (c : Cell) → Has lower c → IsInLower active rect end c
  from_lower c k =
      let both = (clipped active.x0 active.x1 rect.x0 end lower.x0 lower.x1 c.i h.left h.right).0 k.across in
      let a = k.up.from in let b = k.up.before in let d = h.bottom in let e = h.top in
      record { has = record { across = both.0; up = record { from = omega (arith, ints); before = omega (arith, ints) } }; across = both.1; lower = omega (arith, ints) }

  pub in_lower : (c : Cell) → IsInLower active rect end c → Has lower c
  in_lower c k =
      let a = k.has.up.from in let b = k.lower in let d = h.bottom in let e = h.top in
      record {
        across = (clipped active.x0 active.x1 rect.x0 end lower.x0 lower.x1 c.i h.left h.right).1 (k.has.across, k.across);
        up = record { from = omega (arith, ints); before = omega (arith, ints) };
      }

  pub room_lower : (s : Skyline) → ((x : ℤ) → IsIn active.x0 active.x1 x → IsIn rect.x0 end x → IsActiveOver s x → ⊥)
      → ((run : Rect) (c : Cell) → IsDoneIn s run → Has run c → Has active c → ⊥) → HasRoom s lower.x0 lower.x1 lower
  room_lower s columns cells = record {
    columns = λ x i. let both = (clipped active.x0 active.x1 rect.x0 end lower.x0 lower.x1 x h.left h.right).0 i in columns x both.0 both.1;
    cells = λ run c done has p. cells run c done has (from_lower c (from_part lower c p)).has;
  }

  pub lower_finished : (old new : Skyline) → Finishes old new lower → FinishesLower old new active rect end
  lower_finished old new f = record {
    sound = f.sound;
    cells = λ c. (
      λ u. elim ((f.cells c).0 u) [ inl v ↦ inl v | inr k ↦ inr (from_lower c k) ],
      λ k. (f.cells c).1 (elim k [ inl v ↦ inl v | inr l ↦ inr (in_lower c l) ]),
    );
    columns = λ x. (f.columns x).0;
    below = λ low. f.below rect.y0 low (let e = h.top in omega (arith, ints));
    sides = f.sides;
  }

pub none_lower : (s : Skyline) (active rect : Rect) (end : ℤ) → IsSkyline s → rect.y0 ≤ℤ active.y0 → FinishesLower s s active rect end
none_lower s active rect end sound high = record {
  sound = sound;
  cells = λ c. (λ u. inl u, λ k. elim k [ inl u ↦ u | inr l ↦ let a = l.has.up.from in let b = l.lower in absurd (omega (arith, ints)) ]);
  columns = λ x o. o;
  below = λ low. low;
  sides = λ xs s. s;
}

-- ---- what is kept

-- all of it lies lower
pub all_kept : (old new : Skyline) (active rect : Rect) (end : ℤ) → active.y1 ≤ℤ rect.y0 → Finishes old new active → KeepsRest old new active rect end
all_kept old new active rect end low f = record {
  sound = f.sound;
  cells = λ c. (
    λ u. elim ((f.cells c).0 u) [ inl v ↦ inl v | inr k ↦ inr (record { has = k; lower = λ i. let b = k.up.before in omega (arith, ints) }) ],
    λ k. (f.cells c).1 (elim k [ inl v ↦ inl v | inr r ↦ inr r.has ]),
  );
  columns = λ x i. (f.columns x).0;
  below = λ l begins. f.below rect.y0 l low;
  sides = λ xs s a b d e. f.sides xs s;
}

module _ (old left right new : Skyline) (active rect : Rect) (end : ℤ) (begins : active.x0 <ℤ end) (ends : rect.x0 <ℤ active.x1)
    (on_left : Activates old left active.x0 rect.x0 active) (on_right : Activates left right end active.x1 active) where
  left_cell : (c : Cell) → IsInPart active.x0 rect.x0 active c → IsInRest active rect end c
  left_cell c p =
      let a = p.across.from in let b = p.across.before in
      record { has = record { across = record { from = a; before = omega (arith, ints) }; up = p.up }; lower = λ i. let d = i.from in absurd (omega (arith, ints)) }

  right_cell : (c : Cell) → IsInPart end active.x1 active c → IsInRest active rect end c
  right_cell c p =
      let a = p.across.from in let b = p.across.before in
      record { has = record { across = record { from = omega (arith, ints); before = b }; up = p.up }; lower = λ i. let d = i.before in absurd (omega (arith, ints)) }

  three_ways : (c : Cell) → IsInRest active rect end c → (IsInPart active.x0 rect.x0 active c ⊎ IsInPart end active.x1 active c) ⊎ IsInLower active rect end c
  three_ways c r =
      let a = r.has.across.from in let b = r.has.across.before in
      by_lt_z c.i rect.x0 (λ l. inl (inl (record { across = record { from = a; before = l }; up = r.has.up })))
      (λ l. by_lt_z c.i end (λ m. let i : IsIn rect.x0 end c.i = record { from = l; before = m } in inr (record { has = r.has; across = i; lower = r.lower i }))
      (λ m. inl (inr (record { across = record { from = m; before = b }; up = r.has.up }))))

  -- what stands to the left and to the right keeps the room between
  pub room_between : HasRoom old active.x0 active.x1 active → (x : ℤ) → IsIn active.x0 active.x1 x → IsIn rect.x0 end x → IsActiveOver right x → ⊥
  room_between room x i k o = elim ((on_right.columns x).0 o) [
    | inl p ↦ elim ((on_left.columns x).0 p) [
      | inl q ↦ room.columns x i q
      | inr m ↦ let a = m.before in let b = k.from in absurd (omega (arith, ints))
    ]
    | inr m ↦ let a = m.from in let b = k.before in absurd (omega (arith, ints))
  ]

  pub clear_between : HasRoom old active.x0 active.x1 active → (run : Rect) (c : Cell) → IsDoneIn right run → Has run c → Has active c → ⊥
  clear_between room run c done has k = room.cells run c (subst (λ qs. Contains qs run) (on_right.runs ∙ on_left.runs) done) has (in_part active c k)

  pub rest_kept : FinishesLower right new active rect end → KeepsRest old new active rect end
  rest_kept f = record {
    sound = f.sound;
    cells = λ c. (
      λ u. elim ((f.cells c).0 u) [
        | inl v ↦ elim ((on_right.cells c).0 v) [
          | inl w ↦ elim ((on_left.cells c).0 w) [ inl o ↦ inl o | inr p ↦ inr (left_cell c p) ]
          | inr p ↦ inr (right_cell c p)
        ]
        | inr l ↦ inr (record { has = l.has; lower = λ i. l.lower })
      ],
      λ k. elim k [
        | inl o ↦ (f.cells c).1 (inl ((on_right.cells c).1 (inl ((on_left.cells c).1 (inl o)))))
        | inr r ↦ elim (three_ways c r) [
          | inl beside ↦ (f.cells c).1 (inl ((on_right.cells c).1 (elim beside [ inl p ↦ inl ((on_left.cells c).1 (inr p)) | inr p ↦ inr p ])))
          | inr l ↦ (f.cells c).1 (inr l)
        ]
      ],
    );
    columns = λ x i o. elim ((on_right.columns x).0 (f.columns x o)) [
      | inl p ↦ elim ((on_left.columns x).0 p) [ inl q ↦ q | inr m ↦ let a = m.before in let b = i.from in absurd (omega (arith, ints)) ]
      | inr m ↦ let a = m.from in let b = i.before in absurd (omega (arith, ints))
    ];
    below = λ low lowest. f.below (on_right.below rect.y0 (on_left.below rect.y0 low lowest) lowest);
    sides = λ xs s a b d e. f.sides xs (on_right.sides xs (on_left.sides xs s a d) e b);
  }
