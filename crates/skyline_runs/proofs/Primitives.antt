-- what becomes of a skyline where one rectangle is made active, taken out, or finished
use Rattle.std.proofs.Common.{[], get_or, refl, sym, ap, subst, inl, inr, arith, ◌++◌, ◌∷◌, ◌∙◌, ◌≡◌, ◌⊎◌, Vec, ℤ, Contains, Some, None, ◌≤ℤ◌}
use Rattle.lists.proofs.Words.{ints, Contains-append_left, Contains-get_or, Contains-push, Contains-push_cases, all_pairs_push, BTreeMap, get, Global, int_cmp}
use Rattle.geo_core.specs.Plane.{Has, Overlap, IsIn}
use Rattle.geo_core.specs.declared.plane.Cell.{Cell}
use Rattle.geo_core.specs.declared.plane.Rect.{Rect}
use Rattle.skyline_runs.specs.Runs.{AreApart}
use Rattle.skyline_runs.specs.inside.Skylines.{Activates, Finishes, HasRoom, IsActiveIn, IsActiveOver, IsDoneIn, IsInPart, IsSkyline, IsUnder, TakesOut}
use Rattle.skyline_runs.specs.declared.skyline.Skyline.{Skyline}
use Rattle.skyline_runs.proofs.Entries.{Changes, entry_at}

-- the skyline with these active rectangles
abbrev pub with_active : Skyline → BTreeMap ℤ Rect → Skyline
with_active old map = record { active = map; runs = old.runs }

pub in_part : (rect : Rect) (c : Cell) → Has rect c → IsInPart rect.x0 rect.x1 rect c
in_part rect c h = record { across = h.across; up = h.up }

pub from_part : (rect : Rect) (c : Cell) → IsInPart rect.x0 rect.x1 rect c → Has rect c
from_part rect c h = record { across = h.across; up = h.up }

-- the columns of a rectangle have its leftmost one
pub first_column : (rect : Rect) → IsIn rect.x0 rect.x1 rect.x0
first_column rect = let some = rect.across.some in record { from = omega (arith, ints); before = some }

-- a rectangle with a cell lies over the cell's column
pub over_column : (s : Skyline) (q : Rect) (c : Cell) → IsActiveIn s q → Has q c → IsActiveOver s c.i
over_column s q c at has = record { rect = q; is_active = at; over = has.across }

-- one more active rectangle
module _ (old : Skyline) (map : BTreeMap ℤ Rect) (rect : Rect) (sound : IsSkyline old) (room : HasRoom old rect.x0 rect.x1 rect) (change : Changes old.active map rect.x0 (Some rect)) where
  one_or_old : (x : ℤ) (q : Rect) → get int_cmp map x ≡ Some q → ((rect.x0 ≡ x) × (q ≡ rect)) ⊎ (get int_cmp old.active x ≡ Some q)
  one_or_old x q at = elim (entry_at old.active map rect.x0 (Some rect) change x) [
    | inl e ↦ let same : Some q ≡ Some rect = sym at ∙ e.1 in inl (e.0, cc)
    | inr e ↦ inr (sym e ∙ at)
  ]

  stays : (q : Rect) → IsActiveIn old q → get int_cmp map q.x0 ≡ Some q
  stays q at = elim (change.elsewhere q.x0) [
    | inl e ↦ absurd (room.columns q.x0 (subst (IsIn rect.x0 rect.x1) e (first_column rect)) (record { rect = q; is_active = at; over = first_column q }))
    | inr e ↦ e ∙ at
  ]

  no_other : (q : Rect) (x : ℤ) → IsActiveIn old q → IsIn q.x0 q.x1 x → IsIn rect.x0 rect.x1 x → ⊥
  no_other q x at over in_rect = room.columns x in_rect (record { rect = q; is_active = at; over = over })

  one_over_still : (a b : Rect) (x : ℤ) → IsActiveIn (with_active old map) a → IsActiveIn (with_active old map) b → IsIn a.x0 a.x1 x → IsIn b.x0 b.x1 x → a ≡ b
  one_over_still a b x a_at b_at a_over b_over = elim (one_or_old a.x0 a a_at) [
    | inl (_, e) ↦ elim (one_or_old b.x0 b b_at) [
      | inl (_, f) ↦ e ∙ sym f
      | inr g ↦ absurd (no_other b x g b_over (subst (λ (r : Rect). IsIn r.x0 r.x1 x) e a_over))
    ]
    | inr f ↦ elim (one_or_old b.x0 b b_at) [
      | inl (_, e) ↦ absurd (no_other a x f a_over (subst (λ (r : Rect). IsIn r.x0 r.x1 x) e b_over))
      | inr g ↦ sound.one_over a b x f g a_over b_over
    ]
  ]

  still_sound : IsSkyline (with_active old map)
  still_sound = record {
    by_column = λ x q at. elim (one_or_old x q at) [ inl (e, f) ↦ ap (λ (r : Rect). r.x0) f ∙ e | inr h ↦ sound.by_column x q h ];
    one_over = one_over_still;
    apart = sound.apart;
    clear = λ run q c done at run_has has. elim (one_or_old q.x0 q at) [
      | inl (_, e) ↦ room.cells run c done run_has (in_part rect c (subst (λ (r : Rect). Has r c) e has))
      | inr h ↦ sound.clear run q c done h run_has has
    ];
  }

  cells_then : (c : Cell) → IsUnder (with_active old map) c → IsUnder old c ⊎ IsInPart rect.x0 rect.x1 rect c
  cells_then c u = elim u.part [
    | inl at ↦ elim (one_or_old u.rect.x0 u.rect at) [
      | inl (_, e) ↦ inr (in_part rect c (subst (λ (r : Rect). Has r c) e u.has))
      | inr h ↦ inl (record { rect = u.rect; part = inl h; has = u.has })
    ]
    | inr done ↦ inl (record { rect = u.rect; part = inr done; has = u.has })
  ]

  cells_before : (c : Cell) → IsUnder old c ⊎ IsInPart rect.x0 rect.x1 rect c → IsUnder (with_active old map) c
  cells_before c (inl u) = record { rect = u.rect; part = elim u.part [ inl at ↦ inl (stays u.rect at) | inr done ↦ inr done ]; has = u.has }
  cells_before c (inr p) = record { rect = rect; part = inl change.here; has = from_part rect c p }

  columns_then : (x : ℤ) → IsActiveOver (with_active old map) x → IsActiveOver old x ⊎ IsIn rect.x0 rect.x1 x
  columns_then x o = elim (one_or_old o.rect.x0 o.rect o.is_active) [
    | inl (_, e) ↦ inr (subst (λ (r : Rect). IsIn r.x0 r.x1 x) e o.over)
    | inr h ↦ inl (record { rect = o.rect; is_active = h; over = o.over })
  ]

  columns_before : (x : ℤ) → IsActiveOver old x ⊎ IsIn rect.x0 rect.x1 x → IsActiveOver (with_active old map) x
  columns_before x (inl o) = record { rect = o.rect; is_active = stays o.rect o.is_active; over = o.over }
  columns_before x (inr i) = record { rect = rect; is_active = change.here; over = i }

  pub activated : Activates old (with_active old map) rect.x0 rect.x1 rect
  activated = record {
    sound = still_sound;
    cells = λ c. (cells_then c, cells_before c);
    columns = λ x. (columns_then x, columns_before x);
    runs = refl;
    below = λ row low begins. record {
      begun = λ q at. elim (one_or_old q.x0 q at) [ inl (_, e) ↦ subst (λ (r : Rect). r.y0 ≤ℤ row) (sym e) begins | inr h ↦ low.begun q h ];
      ended = low.ended;
    };
    sides = λ xs s from to. record {
      begins = λ q at. elim (one_or_old q.x0 q at) [ inl (_, e) ↦ subst (λ (r : Rect). Contains xs r.x0) (sym e) from | inr h ↦ s.begins q h ];
      ends = λ q at. elim (one_or_old q.x0 q at) [ inl (_, e) ↦ subst (λ (r : Rect). Contains xs r.x1) (sym e) to | inr h ↦ s.ends q h ];
    };
  }

-- one active rectangle less
module _ (old : Skyline) (map : BTreeMap ℤ Rect) (rect : Rect) (sound : IsSkyline old) (at_rect : IsActiveIn old rect) (change : Changes old.active map rect.x0 None) where
  was : (x : ℤ) (q : Rect) → get int_cmp map x ≡ Some q → get int_cmp old.active x ≡ Some q
  was x q at = elim (entry_at old.active map rect.x0 None change x) [
    | inl e ↦ let never : None ≡ Some q = sym e.1 ∙ at in absurd (cc)
    | inr e ↦ sym e ∙ at
  ]

  is_other : (q : Rect) → get int_cmp map q.x0 ≡ Some q → q ≡ rect → ⊥
  is_other q at e = let never : None ≡ Some q = sym change.here ∙ ap (λ (r : Rect). get int_cmp map r.x0) (sym e) ∙ at in absurd (cc)

  one_or_stays : (q : Rect) → IsActiveIn old q → (q ≡ rect) ⊎ (get int_cmp map q.x0 ≡ Some q)
  one_or_stays q at = elim (change.elsewhere q.x0) [
    | inl e ↦ let same : Some q ≡ Some rect = sym at ∙ ap (get int_cmp old.active) (sym e) ∙ at_rect in inl (cc)
    | inr e ↦ inr (e ∙ at)
  ]

  sound_without : IsSkyline (with_active old map)
  sound_without = record {
    by_column = λ x q at. sound.by_column x q (was x q at);
    one_over = λ a b x a_at b_at. sound.one_over a b x (was a.x0 a a_at) (was b.x0 b b_at);
    apart = sound.apart;
    clear = λ run q c done at. sound.clear run q c done (was q.x0 q at);
  }

  cells_split : (c : Cell) → IsUnder old c → IsUnder (with_active old map) c ⊎ Has rect c
  cells_split c u = elim u.part [
    | inl at ↦ elim (one_or_stays u.rect at) [
      | inl e ↦ inr (subst (λ (r : Rect). Has r c) e u.has)
      | inr h ↦ inl (record { rect = u.rect; part = inl h; has = u.has })
    ]
    | inr done ↦ inl (record { rect = u.rect; part = inr done; has = u.has })
  ]

  cells_again : (c : Cell) → IsUnder (with_active old map) c ⊎ Has rect c → IsUnder old c
  cells_again c (inl u) = record { rect = u.rect; part = elim u.part [ inl at ↦ inl (was u.rect.x0 u.rect at) | inr done ↦ inr done ]; has = u.has }
  cells_again c (inr h) = record { rect = rect; part = inl at_rect; has = h }

  columns_split : (x : ℤ) → IsActiveOver old x → IsActiveOver (with_active old map) x ⊎ IsIn rect.x0 rect.x1 x
  columns_split x o = elim (one_or_stays o.rect o.is_active) [
    | inl e ↦ inr (subst (λ (r : Rect). IsIn r.x0 r.x1 x) e o.over)
    | inr h ↦ inl (record { rect = o.rect; is_active = h; over = o.over })
  ]

  columns_again : (x : ℤ) → IsActiveOver (with_active old map) x ⊎ IsIn rect.x0 rect.x1 x → IsActiveOver old x
  columns_again x (inl o) = record { rect = o.rect; is_active = was o.rect.x0 o.rect o.is_active; over = o.over }
  columns_again x (inr i) = record { rect = rect; is_active = at_rect; over = i }

  pub taken_out : TakesOut old (with_active old map) rect
  taken_out = record {
    sound = sound_without;
    cells = λ c. (cells_split c, cells_again c);
    columns = λ x. (columns_split x, columns_again x);
    runs = refl;
    room = record {
      columns = λ x i o. is_other o.rect o.is_active (sound.one_over o.rect rect x (was o.rect.x0 o.rect o.is_active) at_rect o.over i);
      cells = λ run c done has p. sound.clear run rect c done at_rect has (from_part rect c p);
    };
    below = λ row low. record { begun = λ q at. low.begun q (was q.x0 q at); ended = low.ended };
    sides = λ xs s. record { begins = λ q at. s.begins q (was q.x0 q at); ends = λ q at. s.ends q (was q.x0 q at) };
  }

-- the skyline with these finished rectangles
abbrev pub with_runs : Skyline → Vec Rect Global → Skyline
with_runs old runs = record { active = old.active; runs = runs }

-- one more finished rectangle
module _ (old : Skyline) (runs : Vec Rect Global) (rect : Rect) (sound : IsSkyline old) (room : HasRoom old rect.x0 rect.x1 rect) (more : runs.items ≡ old.runs.items ++ rect ∷ []) where
  one_or_before : (q : Rect) → Contains runs.items q → (q ≡ rect) ⊎ IsDoneIn old q
  one_or_before q done = elim (Contains-push_cases old.runs.items rect q (subst (λ qs. Contains qs q) more done)) [ inl d ↦ inr d | inr e ↦ inl (sym e) ]

  done_still : (q : Rect) → IsDoneIn old q → Contains runs.items q
  done_still q done = subst (λ qs. Contains qs q) (sym more) (Contains-append_left old.runs.items (rect ∷ []) q done)

  done_now : Contains runs.items rect
  done_now = subst (λ qs. Contains qs rect) (sym more) (Contains-push old.runs.items rect)

  apart_still : AreApart runs.items
  apart_still = subst AreApart (sym more) (all_pairs_push (λ a b. Overlap a b → ⊥) old.runs.items rect sound.apart
      (λ k d small o. room.cells (get_or old.runs.items k d) o.0 (Contains-get_or old.runs.items k d small) o.1 (in_part rect o.0 o.2)))

  sound_with : IsSkyline (with_runs old runs)
  sound_with = record {
    by_column = sound.by_column;
    one_over = sound.one_over;
    apart = apart_still;
    clear = λ run q c done at run_has has. elim (one_or_before run done) [
      | inl e ↦ room.columns c.i (subst (λ (r : Rect). Has r c) e run_has).across (over_column old q c at has)
      | inr d ↦ sound.clear run q c d at run_has has
    ];
  }

  under_then : (c : Cell) → IsUnder (with_runs old runs) c → IsUnder old c ⊎ Has rect c
  under_then c u = elim u.part [
    | inl at ↦ inl (record { rect = u.rect; part = inl at; has = u.has })
    | inr done ↦ elim (one_or_before u.rect done) [
      | inl e ↦ inr (subst (λ (r : Rect). Has r c) e u.has)
      | inr d ↦ inl (record { rect = u.rect; part = inr d; has = u.has })
    ]
  ]

  under_before : (c : Cell) → IsUnder old c ⊎ Has rect c → IsUnder (with_runs old runs) c
  under_before c (inl u) = record { rect = u.rect; part = elim u.part [ inl at ↦ inl at | inr done ↦ inr (done_still u.rect done) ]; has = u.has }
  under_before c (inr h) = record { rect = rect; part = inr done_now; has = h }

  pub finished : Finishes old (with_runs old runs) rect
  finished = record {
    sound = sound_with;
    cells = λ c. (under_then c, under_before c);
    columns = λ x. (
      λ o. record { rect = o.rect; is_active = o.is_active; over = o.over },
      λ o. record { rect = o.rect; is_active = o.is_active; over = o.over },
    );
    below = λ row low ends. record {
      begun = low.begun;
      ended = λ q done. elim (one_or_before q done) [ inl e ↦ subst (λ (r : Rect). r.y1 ≤ℤ row) (sym e) ends | inr d ↦ low.ended q d ];
    };
    runs = more;
    sides = λ xs s. record { begins = λ q at. s.begins q at; ends = λ q at. s.ends q at };
  }
