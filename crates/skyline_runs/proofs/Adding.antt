-- a rectangle that is added from the right to the left
use Rattle.std.proofs.Common.{subst, sym, inl, inr, arith, ◌≡◌, ◌⊎◌, ℤ, List, Contains, ◌≤ℤ◌, ◌<ℤ◌, ◌↔◌}
use Rattle.lists.proofs.Words.{ints, clamps, by_lt_z, int_max}
use Rattle.geo_core.specs.Plane.{Has, IsIn}
use Rattle.geo_core.specs.declared.plane.Cell.{Cell}
use Rattle.geo_core.specs.declared.plane.Rect.{Rect}
use Rattle.skyline_runs.specs.inside.Skylines.{Activates, HasRoom, IsActiveIn, IsActiveOver, IsAddedTo, IsBelow, IsInPart, IsInRest, IsNextActive, IsSkyline, IsUnder, KeepsRest, TakesOut}
use Rattle.skyline_runs.specs.declared.skyline.Skyline.{Skyline}
use Rattle.skyline_runs.proofs.Primitives.{from_part, in_part}

-- a part of fewer columns
pub fewer_columns : (low high low' high' : ℤ) (rect : Rect) (c : Cell) → low' ≤ℤ low → high ≤ℤ high' → IsInPart low high rect c → IsInPart low' high' rect c
fewer_columns low high low' high' rect c a b p =
    let d = p.across.from in let e = p.across.before in
    record { across = record { from = omega (arith, ints); before = omega (arith, ints) }; up = p.up }

-- finished rectangles end below a rectangle that begins no lower, so there is room where nothing is active
pub room_above : (s : Skyline) (rect : Rect) (low high : ℤ) → IsBelow rect.y0 s → ((x : ℤ) → IsIn low high x → IsActiveOver s x → ⊥) → HasRoom s low high rect
room_above s rect low high below free = record {
  columns = free;
  cells = λ run c done has p.
      let a = below.ended run done in let b = has.up.before in let d = p.up.from in
      absurd (omega (arith, ints));
}

-- ---- the rectangle lies under the active one where both have columns

-- the greater one of two columns of a list is one of the list
of_greater : (xs : List ℤ) (a b c : ℤ) → c ≡ int_max a b → Contains xs a → Contains xs b → Contains xs c
of_greater xs a b c is left right = by_lt_z a b
    (λ less. subst (λ (z : ℤ). Contains xs z) (omega (arith, ints, clamps)) right)
    (λ more. subst (λ (z : ℤ). Contains xs z) (omega (arith, ints, clamps)) left)

module _ (old new : Skyline) (active rect : Rect) (end next : ℤ) (below : IsBelow rect.y0 old) (met : IsNextActive old active rect end)
    (some : rect.x0 <ℤ end) (under : rect.y1 ≤ℤ active.y1) (to : next ≡ int_max active.x0 rect.x0) (made : Activates old new active.x1 end rect) where
  its_cells : (c : Cell) → IsInPart rect.x0 end rect c → (IsUnder old c ⊎ IsInPart active.x1 end rect c) ⊎ IsInPart rect.x0 next rect c
  its_cells c p =
      let a = p.across.from in let b = p.across.before in let d = p.up.from in let e = p.up.before in let low = below.begun active met.is_active in
      by_lt_z c.i next (λ l. inr (record { across = record { from = a; before = l }; up = p.up }))
      (λ l. by_lt_z c.i active.x1
      (λ m. inl (inl (record {
        rect = active;
        part = inl met.is_active;
        has = record { across = record { from = omega (arith, ints, clamps); before = m }; up = record { from = omega (arith, ints); before = omega (arith, ints) } };
      })))
      (λ m. inl (inr (record { across = record { from = m; before = b }; up = p.up }))))

  pub met_under : IsAddedTo old new rect active.x0 end next
  met_under =
      let begins = met.begins in let reaches = met.reaches in
      record {
        sound = made.sound;
        below = made.below rect.y0 below (omega (arith, ints));
        cells = λ c. (
          λ k. elim k [
            | inl u ↦ elim ((made.cells c).0 u) [ inl v ↦ inl v | inr p ↦ inr (fewer_columns active.x1 end rect.x0 end rect c (omega (arith, ints)) (omega (arith, ints)) p) ]
            | inr p ↦ inr (fewer_columns rect.x0 next rect.x0 end rect c (omega (arith, ints)) (omega (arith, ints, clamps)) p)
          ],
          λ k. elim k [
            | inl u ↦ inl ((made.cells c).1 (inl u))
            | inr p ↦ elim (its_cells c p) [ inl q ↦ inl ((made.cells c).1 q) | inr q ↦ inr q ]
          ],
        );
        free = λ x from i o. let a = i.from in let b = i.before in absurd (omega (arith, ints, clamps));
        from = omega (arith, ints, clamps);
        up_to = omega (arith, ints, clamps);
        looked = omega (arith, ints, clamps);
        sides = λ xs s left start. (made.sides xs s (s.ends active met.is_active) start, of_greater xs active.x0 rect.x0 next to (s.begins active met.is_active) left);
      }

-- ---- the rectangle takes the place of the active one

module _ (old middle new : Skyline) (active rect : Rect) (end : ℤ) (below : IsBelow rect.y0 old) (met : IsNextActive old active rect end)
    (some : rect.x0 <ℤ end) (over : active.y1 ≤ℤ rect.y1) (out : TakesOut old middle active) (kept : KeepsRest middle new active rect end) where
  taken_cells : (c : Cell) → Has active c → IsInRest active rect end c ⊎ IsInPart rect.x0 end rect c
  taken_cells c h =
      let a = h.up.before in
      by_lt_z c.i rect.x0 (λ l. inl (record { has = h; lower = λ i. let b = i.from in absurd (omega (arith, ints)) }))
      (λ l. by_lt_z c.i end
      (λ m. by_lt_z c.j rect.y0 (λ n. inl (record { has = h; lower = λ i. n }))
      (λ n. inr (record { across = record { from = l; before = m }; up = record { from = n; before = omega (arith, ints) } })))
      (λ m. inl (record { has = h; lower = λ i. let b = i.before in absurd (omega (arith, ints)) })))

  -- what is active over these columns was so before, and is not the one that was taken out
  free_then : (x : ℤ) → active.x0 ≤ℤ x → IsIn rect.x0 end x → IsActiveOver new x → ⊥
  free_then x from i o =
      let p = kept.columns x i o in let b = i.before in
      by_lt_z x active.x1 (λ l. out.room.columns x (record { from = from; before = l }) p)
      (λ l. met.free x (record { from = l; before = b }) ((out.columns x).1 (inl p)))

  pub met_over : IsAddedTo old new rect active.x0 end end
  met_over =
      let begins = met.begins in let low = below.begun active met.is_active in
      record {
        sound = kept.sound;
        below = kept.below (out.below rect.y0 below) low;
        cells = λ c. (
          λ k. elim k [
            | inl u ↦ elim ((kept.cells c).0 u) [ inl v ↦ inl ((out.cells c).1 (inl v)) | inr r ↦ inl ((out.cells c).1 (inr r.has)) ]
            | inr p ↦ inr p
          ],
          λ k. elim k [
            | inl u ↦ elim ((out.cells c).0 u) [
              | inl v ↦ inl ((kept.cells c).1 (inl v))
              | inr h ↦ elim (taken_cells c h) [ inl r ↦ inl ((kept.cells c).1 (inr r)) | inr p ↦ inr p ]
            ]
            | inr p ↦ inr p
          ],
        );
        free = free_then;
        from = omega (arith, ints);
        up_to = omega (arith, ints);
        looked = omega (arith, ints);
        sides = λ xs s left start. (kept.sides xs (out.sides xs s) (s.begins active met.is_active) (s.ends active met.is_active) left start, start);
      }

-- ---- from one active rectangle to the next

pub added_more : (old now new : Skyline) (rect : Rect) (column column' start end next : ℤ) → IsAddedTo old now rect column start end → IsAddedTo now new rect column' end next
    → IsAddedTo old new rect column' start next
added_more old now new rect column column' start end next a b =
    let d = a.up_to in let e = b.up_to in
    record {
      sound = b.sound;
      below = b.below;
      cells = λ c. (λ k. (a.cells c).0 ((b.cells c).0 k), λ k. (b.cells c).1 ((a.cells c).1 k));
      free = b.free;
      from = b.from;
      up_to = omega (arith, ints);
      looked = b.looked;
      sides = λ xs s left from. let k = a.sides xs s left from in b.sides xs k.0 left k.1;
    }

-- the active rectangle that comes next
pub next_active : (old now : Skyline) (rect active : Rect) (column start end : ℤ) → IsAddedTo old now rect column start end → IsActiveIn now active → active.x0 <ℤ column → rect.x0 <ℤ active.x1
    → ((x : ℤ) → IsIn active.x1 column x → IsActiveOver now x → ⊥) → IsNextActive now active rect end
next_active old now rect active column start end a at before reaches behind =
    let looked = a.looked in
    record {
      is_active = at;
      begins = omega (arith, ints);
      reaches = reaches;
      free = λ x i o.
          let b = i.from in let d = i.before in
          by_lt_z x column (λ l. behind x (record { from = b; before = l }) o) (λ l. a.free x l (record { from = omega (arith, ints); before = d }) o);
    }

pub added_at : (old now : Skyline) (rect : Rect) (column column' start end end' : ℤ) → IsAddedTo old now rect column start end → column ≡ column' → end ≡ end'
    → IsAddedTo old now rect column' start end'
added_at old now rect column column' start end end' a e f = subst (λ (z : ℤ). IsAddedTo old now rect column' start z) f (subst (λ (z : ℤ). IsAddedTo old now rect z start end) e a)

-- at first nothing of the rectangle is added
pub added_none : (s : Skyline) (rect : Rect) (column end : ℤ) → IsSkyline s → IsBelow rect.y0 s → rect.x0 <ℤ rect.x1 → column ≡ rect.x1 → end ≡ rect.x1
    → IsAddedTo s s rect column rect.x1 end
added_none s rect column end sound below some e f = added_at s s rect rect.x1 column rect.x1 rect.x1 end (record {
  sound = sound;
  below = below;
  cells = λ c. (λ u. u, λ u. u);
  free = λ x from i o. let b = i.before in omega (arith, ints);
  from = omega (arith, ints);
  up_to = omega (arith, ints);
  looked = omega (arith, ints);
  sides = λ xs s left start. (s, start);
}) (sym e) (sym f)

-- nothing is active before the column, either
pub added_free : (old now : Skyline) (rect : Rect) (column start end : ℤ) → IsAddedTo old now rect column start end
    → ((x : ℤ) → IsIn rect.x0 column x → IsActiveOver now x → ⊥) → IsAddedTo old now rect rect.x0 start end
added_free old now rect column start end a none = record {
  sound = a.sound;
  below = a.below;
  cells = a.cells;
  free = λ x from i o. let b = i.from in by_lt_z x column (λ l. none x (record { from = b; before = l }) o) (λ l. a.free x l i o);
  from = a.from;
  up_to = a.up_to;
  looked = a.from;
  sides = a.sides;
}

-- the columns are looked at to the left end of the rectangle
pub added_whole : (old now : Skyline) (rect : Rect) (column start end : ℤ) → IsAddedTo old now rect column start end → column ≤ℤ rect.x0
    → IsAddedTo old now rect rect.x0 start end
added_whole old now rect column start end a past = added_free old now rect column start end a (λ x i o. let b = i.from in let d = i.before in omega (arith, ints))

-- the rest is made active
pub all_added : (old now new : Skyline) (rect : Rect) (end : ℤ) → IsAddedTo old now rect rect.x0 rect.x1 end → Activates now new rect.x0 end rect
    → (IsSkyline new × IsBelow rect.y0 new × ((c : Cell) → IsUnder new c ↔ (IsUnder old c ⊎ Has rect c)))
all_added old now new rect end a made = (
  made.sound,
  made.below rect.y0 a.below (omega (arith, ints)),
  λ c. (
    λ u. elim ((a.cells c).0 ((made.cells c).0 u)) [ inl v ↦ inl v | inr p ↦ inr (from_part rect c p) ],
    λ k. (made.cells c).1 ((a.cells c).1 (elim k [ inl v ↦ inl v | inr h ↦ inr (in_part rect c h) ])),
  ),
)

pub free_from_none : (now : Skyline) (low column : ℤ) → ((x : ℤ) → x <ℤ column → IsActiveOver now x → ⊥) → (x : ℤ) → IsIn low column x → IsActiveOver now x → ⊥
free_from_none now low column none x i = none x i.before

pub free_from_behind : (now : Skyline) (low column past : ℤ) → past ≤ℤ low → ((x : ℤ) → IsIn past column x → IsActiveOver now x → ⊥) → (x : ℤ) → IsIn low column x → IsActiveOver now x → ⊥
free_from_behind now low column past small behind x i = let a = i.from in let b = i.before in behind x (record { from = omega (arith, ints); before = b })
