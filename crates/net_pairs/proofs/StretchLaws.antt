-- laws of stretches of one row each, from corner to corner
use Rattle.std.proofs.Common.{ℕ, ℤ, Bool, List, [], ◌∷◌, ◌++◌, ◌+◌, ◌%◌, ◌^◌, ◌<◌, ◌≤◌, ◌≡◌, ◌∙◌, ◌↔◌, ◌+ℤ◌, ◌≤ℤ◌, ◌<ℤ◌, pos, refl, sym, ap, cond, true, false, inl, inr, arith, length, get_or, take, take_all, All, int_le, int_lt, ◌&&◌, ◌==◌}
use Rattle.lists.proofs.Words.{ints, int_eq, sum_by_more, sum_by_push, and_parts, cases_Bool, false≢true, Decides-int_eq, All-nil, All-push}
use Rattle.geo_core.specs.Plane.{Has, IsIn}
use Rattle.geo_core.specs.declared.plane.Cell.{Cell}
use Rattle.geo_core.specs.declared.plane.Labelled.{Labelled}
use Rattle.geo_core.specs.declared.plane.Rect.{Rect}
use Rattle.skyline_runs.specs.Depths.{has_cell}
use Rattle.skyline_runs.proofs.laws.DepthLaws.{from_le, from_lt, has_from, has_so, le_true, lt_true}
use Rattle.net_pairs.specs.declared.corners.Corner.{Corner}
use Rattle.net_pairs.specs.declared.weighted.Weighted.{Weighted}
use Rattle.net_pairs.specs.inside.RowChanges.{AreChangesOf, IsChangeIn, below, count_in, weight_at}
use Rattle.net_pairs.specs.inside.ChangeCorners.{AreCornersOf, AreStretchesOf, Follows, GainsStretch, IsInRowPart, IsRowPart, corner_at, gain_at, gain_before, gained}
use Rattle.net_pairs.specs.inside.SameRests.{HaveOneRest}
use Rattle.net_pairs.proofs.CornerLaws.{nothing_gained, same_tests}
use Rattle.net_pairs.proofs.RestLaws.{rest_added, rest_equal, rest_refl, rest_sym, rest_trans, rest_wrapped}

both_true : (a b : Bool) → a ≡ true → b ≡ true → (a && b) ≡ true
both_true a b s t = rw (s, t) refl

zero_unless : (b : Bool) (n : ℕ) → (b ≡ true → ⊥) → cond b n 0 ≡ 0
zero_unless true n never = absurd (never refl)
zero_unless false n never = refl

-- ---- a part of a row

-- the part, by its sides
pub row_part_is : (window rect : Rect) (row first end : ℤ) → ((x : ℤ) → IsIn rect.x0 rect.x1 x ↔ (IsIn first end x × IsIn window.x0 window.x1 x))
    → rect.y0 ≡ row → rect.y1 ≡ row +ℤ pos 1 → window.y0 ≤ℤ row → row <ℤ window.y1 → IsRowPart window row first end rect
row_part_is window rect row first end across low high from before = record {
  level = high ∙ ap (λ y. y +ℤ pos 1) (sym low);
  cells = λ c. (
    λ h.
        let sides = (across c.i).0 h.across in
        let f = h.up.from in let b = h.up.before in
        let level : c.j ≡ row = omega (arith, ints, f, b, low, high) in record {
          has = record { across = sides.1; up = record { from = omega (arith, ints, level, from); before = omega (arith, ints, level, before) } };
          level = level;
          across = sides.0;
        },
    λ h. let level = h.level in record {
      across = (across c.i).1 (h.across, h.has.across);
      up = record { from = omega (arith, ints, level, low); before = omega (arith, ints, level, high) };
    },
  );
}

-- ---- one stretch

module _ (window : Rect) (corner : Corner) (end : ℤ) (label : ℕ) (c : Cell) where
  -- the tests of what the corner gains before the end
  abbrev tests : Bool
  tests = corner.label == label && (int_eq corner.row c.j && int_le corner.column c.i)

  gains_at_part : int_lt c.i end ≡ true → tests ≡ true → Has window c → (corner.label == label ≡ true) × IsInRowPart window corner.row corner.column end c
  gains_at_part t u has =
      let both = and_parts (corner.label == label) (int_eq corner.row c.j && int_le corner.column c.i) u in
      let rest = and_parts (int_eq corner.row c.j) (int_le corner.column c.i) both.1 in (
        both.0,
        record { has = has; level = sym ((Decides-int_eq corner.row c.j).0 rest.0); across = record { from = from_le corner.column c.i rest.1; before = from_lt c.i end t } },
      )

  gains_none_there : (IsInRowPart window corner.row corner.column end c → ⊥) → Has window c → gain_before end label c corner ≡ 0
  gains_none_there never has = elim (cases_Bool (int_lt c.i end)) [
    | inl t ↦ rw t (zero_unless tests corner.gain (λ u. never (gains_at_part t u has).1))
    | inr f ↦ rw f refl
  ]

  gains_there : (rect : Rect) → IsRowPart window corner.row corner.column end rect → Has window c
      → gain_before end label c corner ≡ cond (corner.label == label && has_cell c rect) corner.gain 0
  gains_there rect is has = elim (cases_Bool (int_lt c.i end)) [
    | inl t ↦ rw t (ap (λ b. cond b corner.gain 0) (same_tests tests (corner.label == label && has_cell c rect)
        (λ u. let there = gains_at_part t u has in both_true (corner.label == label) (has_cell c rect) there.0 (has_so c rect ((is.cells c).1 there.1)))
        (λ u. let both = and_parts (corner.label == label) (has_cell c rect) u in let there = (is.cells c).0 (has_from c rect both.1) in
        both_true (corner.label == label) (int_eq corner.row c.j && int_le corner.column c.i) both.0
        (both_true (int_eq corner.row c.j) (int_le corner.column c.i) ((Decides-int_eq corner.row c.j).1 (sym there.level)) (le_true corner.column c.i there.across.from)))))
    | inr f ↦ rw f (sym (zero_unless (corner.label == label && has_cell c rect) corner.gain (λ u.
        let both = and_parts (corner.label == label) (has_cell c rect) u in
        let there = (is.cells c).0 (has_from c rect both.1) in
        false≢true (sym f ∙ lt_true c.i end there.across.before))))
  ]

module _ (window : Rect) (corner : Corner) (end : ℤ) (old : List Weighted) where
  pub stretch_of_nothing : corner.gain ≡ 0 → GainsStretch window corner end old old
  stretch_of_nothing e = record {
    weight = λ label c has. let n = nothing label c in omega (arith, n);
    within = λ all. all;
  } where
    nothing : (label : ℕ) (c : Cell) → gain_before end label c corner ≡ 0
    nothing label c = elim (cases_Bool (int_lt c.i end)) [ inl t ↦ rw t (nothing_gained label c corner e) | inr f ↦ rw f refl ]

  pub stretch_nowhere : ((c : Cell) → IsInRowPart window corner.row corner.column end c → ⊥) → GainsStretch window corner end old old
  stretch_nowhere never = record {
    weight = λ label c has. let n = gains_none_there window corner end label c (never c) has in omega (arith, n);
    within = λ all. all;
  }

  pub stretch_there : (change : Weighted) → change.label ≡ corner.label → change.weight ≡ corner.gain → IsRowPart window corner.row corner.column end change.rect
      → GainsStretch window corner end old (old ++ change ∷ [])
  stretch_there change own weight is = record {
    weight = λ label c has.
        sum_by_push (λ (x : Weighted). cond (x.label == label && has_cell c x.rect) x.weight 0) old change
        ∙ ap (λ n. weight_at old label c + n) (weigh label c ∙ sym (gains_there window corner end label c change.rect is has));
    within = λ all. All-push (IsChangeIn window) old change all (record { level = is.level; within = λ c has. ((is.cells c).0 has).has });
  } where
    weigh : (label : ℕ) (c : Cell) → cond (change.label == label && has_cell c change.rect) change.weight 0 ≡ cond (corner.label == label && has_cell c change.rect) corner.gain 0
    weigh label c = rw (own, weight) refl

-- ---- one corner after the other

module _ (window : Rect) (last corner : Corner) (old new : List Weighted) where
  -- the next corner does not stand behind the last one in its row
  pub follows_elsewhere : GainsStretch window last window.x1 old new → Follows window last corner corner old new
  follows_elsewhere gains = record {
    weight = λ label c has.
        let before = has.across.before in
        let t : int_lt c.i window.x1 ≡ true = lt_true c.i window.x1 before in
        let e : gain_before window.x1 label c last ≡ gain_at label c last = rw t refl in
        rest_equal (ap (λ n. n + gain_at label c corner) (gains.weight label c has ∙ ap (λ n. weight_at old label c + n) e));
    within = gains.within;
  }

  -- it does: what was gained so far goes on from there
  module _ (own : last.label ≡ corner.label) (level : last.row ≡ corner.row) (behind : last.column ≤ℤ corner.column) where
    by_tests : (mine here a b s : Bool) → (s ≡ true → b ≡ true → ⊥) → (s ≡ false → b ≡ false → ⊥) → (b ≡ true → a ≡ false → ⊥) →
        HaveOneRest
        (cond s (cond (mine && (here && a)) last.gain 0) 0 + cond (mine && (here && b)) ((last.gain + corner.gain) % 2 ^ 64) 0)
        (cond (mine && (here && a)) last.gain 0 + cond (mine && (here && b)) corner.gain 0)
    by_tests false here a b true f g h = rest_refl 0
    by_tests false here a b false f g h = rest_refl 0
    by_tests true false a b true f g h = rest_refl 0
    by_tests true false a b false f g h = rest_refl 0
    by_tests true true true true true f g h = absurd (f refl refl)
    by_tests true true true true false f g h =
        rest_trans (rest_added (rest_refl 0) (rest_wrapped (last.gain + corner.gain))) (rest_equal (omega arith))
    by_tests true true true false true f g h = rest_refl (last.gain + 0)
    by_tests true true true false false f g h = absurd (g refl refl)
    by_tests true true false true s f g h = absurd (h refl refl)
    by_tests true true false false true f g h = rest_refl 0
    by_tests true true false false false f g h = rest_refl 0

    -- the next corner
    abbrev next : Corner
    next = corner_at corner.label corner.row corner.column ((last.gain + corner.gain) % 2 ^ 64)

    gains_on : (label : ℕ) (c : Cell) → HaveOneRest (gain_before corner.column label c last + gain_at label c next) (gain_at label c last + gain_at label c corner)
    gains_on label c = rw (own, level)
        (by_tests (corner.label == label) (int_eq corner.row c.j) (int_le last.column c.i) (int_le corner.column c.i) (int_lt c.i corner.column)
        (λ t u. never_both c.i corner.column t u) (λ t u. never_neither c.i corner.column t u)
        (λ t u. let from = from_le corner.column c.i t in false≢true (sym u ∙ le_true last.column c.i (omega (arith, ints, from, behind)))))
      where
        never_both : (x y : ℤ) → int_lt x y ≡ true → int_le y x ≡ true → ⊥
        never_both x y t u = grind (arith, ints)

        never_neither : (x y : ℤ) → int_lt x y ≡ false → int_le y x ≡ false → ⊥
        never_neither x y t u = grind (arith, ints)

    pub follows_behind : GainsStretch window last corner.column old new → Follows window last corner next old new
    follows_behind gains = record {
      weight = λ label c has.
          let e = gains.weight label c has in
          rest_trans (rest_equal (omega (arith, e))) (rest_trans (rest_added (rest_refl (weight_at old label c)) (gains_on label c)) (rest_equal (omega arith)));
      within = gains.within;
    }

-- ---- all corners

-- what the first so many corners gain is in the list or at the last corner
pub record AreStretchesTo (window : Rect) (corners : List Corner) (i : ℕ) (changes : List Weighted) (last : Corner) : Type 0 where
  pub weight : (label : ℕ) (c : Cell) → Has window c → HaveOneRest (weight_at changes label c + gain_at label c last) (gained (take i corners) label c)
  pub within : All (IsChangeIn window) changes

pub stretches_begun : (window : Rect) (corners : List Corner) (last : Corner) → last.gain ≡ 0 → AreStretchesTo window corners 0 [] last
stretches_begun window corners last e = record { weight = λ label c has. rest_equal (none label c); within = All-nil (IsChangeIn window) } where
  none : (label : ℕ) (c : Cell) → weight_at [] label c + gain_at label c last ≡ gained [] label c
  none label c = let n = nothing_gained label c last e in omega (arith, n)

module _ (window : Rect) (corners : List Corner) (i : ℕ) (old new : List Weighted) (last : Corner) (h : AreStretchesTo window corners i old last) where
  pub stretches_more : (corner next : Corner) → i < length corners → corner ≡ get_or corners i corner → Follows window last corner next old new
      → AreStretchesTo window corners (i + 1) new next
  stretches_more corner next small is follows = record {
    weight = λ label c has.
        rest_trans (follows.weight label c has)
        (rest_trans (rest_added (h.weight label c has) (rest_refl (gain_at label c corner))) (rest_equal (more label c)));
    within = follows.within h.within;
  } where
    more : (label : ℕ) (c : Cell) → gained (take i corners) label c + gain_at label c corner ≡ gained (take (i + 1) corners) label c
    more label c =
        let a = sum_by_more (gain_at label c) corners i corner small in
        let b = ap (gain_at label c) is in omega (arith, a, b)

  pub stretches_all : length corners ≤ i → GainsStretch window last window.x1 old new → AreStretchesOf window corners new
  stretches_all past gains = record {
    weight = λ label c has.
        let t = lt_true c.i window.x1 has.across.before in
        let e : gain_before window.x1 label c last ≡ gain_at label c last = rw t refl in
        rest_trans (rest_equal (gains.weight label c has ∙ ap (λ n. weight_at old label c + n) e))
        (rest_trans (h.weight label c has) (rest_equal (ap (λ (xs : List Corner). gained xs label c) (take_all i corners past))));
    within = gains.within h.within;
  }

pub changes_are : (window : Rect) (rects : List Labelled) (corners : List Corner) (changes : List Weighted) → AreCornersOf window rects corners → AreStretchesOf window corners changes → AreChangesOf window rects changes
changes_are window rects corners changes are stretches = record {
  change = λ label c has. rest_trans (are.change label c) (rest_added (rest_refl (count_in window rects label (below c))) (rest_sym (stretches.weight label c has)));
  within = stretches.within;
}
