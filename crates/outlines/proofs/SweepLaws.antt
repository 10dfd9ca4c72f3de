-- a sweep up the rows, turn by turn
use Rattle.std.proofs.Common.{ℕ, ◌+◌, ◌<◌, ◌≤◌, ◌^◌, ◌≡◌, ◌≢◌, ◌⊎◌, ◌↔◌, inl, inr, refl, sym, ap, subst, ◌∙◌, List, [], ◌∷◌, length, get_or, take}
use Rattle.std.proofs.Common.{drop, arith, Bool, true, false, cond, not, w64, FitsSigned, ℤ, pos, negsuc, neg_ℤ, ◌+ℤ◌, ◌-ℤ◌, ◌≤ℤ◌, ◌<ℤ◌, ◌&&◌, int_le, All, count_by, take_all}
use Rattle.lists.proofs.Words.{IsPermutation, IsSortedByKey, ComputesKey, Called, always_returns_same, ranks_by, sorted_far, is_lt, Ordering, int_cmp, int_cmp_total, int_ranked}
use Rattle.lists.proofs.Words.{and_right, ints, by_lt_z, and_parts, cases_lt, All-more, All-weaker, length-take, length-drop, get_or_default, sum_by_more, sum_by-IsPermutation, drop_all}
use Rattle.lists.proofs.Sorting.{not_less}
use Rattle.lists.proofs.Containing.{Contains-head, Contains-slice_get, number_of}
use Rattle.std.specs.Ordering.{ordering_then}
use Rattle.std.specs.Cmp.{IsTotalOrder}
use Rattle.std.proofs.Math.Bool.{and-true}
use Rattle.std.proofs.lemmas.Cmp.{on_total, then_total, by_ranked}
use Rattle.std.proofs.lemmas.List.{get_or-drop}
use Rattle.std.proofs.lemmas.List.Sums.{count_by-le-length, sum_by-take-drop}
use denote.Param.Members.{Mut}
use denote.Ref.{Bor}
use Rattle.geo_core.specs.Plane.{Has, IsIn, IsInUnion}
use Rattle.geo_core.specs.declared.bounds.TheConstants.{FARTHEST}
use Rattle.geo_core.specs.declared.plane.Cell.{Cell}
use Rattle.geo_core.specs.declared.plane.Rect.{Rect}
use Rattle.outlines.specs.Fillings.{IsCover}
use Rattle.outlines.specs.inside.Fronts.{IsDrawn, TurnsBetween}
use Rattle.outlines.specs.inside.Pieces.{winding_at}
use Rattle.outlines.specs.inside.FillingRuns.{filled_at, has_below, runs_at, runs_of}
use Rattle.outlines.specs.inside.OutlineTurns.{everywhere, up_to}
use Rattle.outlines.specs.inside.FillingDepths.{depth_at, has_cell, lies_in}
use Rattle.outlines.specs.inside.OutlineTurns.{AreBalanced, AreByRow, IsNoLater, IsWound, falls_at, falls_below, rises_at, rises_below, turned}
use Rattle.outlines.specs.declared.front.Front.{Front}
use Rattle.outlines.specs.declared.run.Run.{Run}
use Rattle.outlines.specs.declared.turn.Turn.{Turn}
use Rattle.outlines.proofs.CountLaws.{count_agree, count_none, le_false, le_true, lt_false, lt_true, passes_count, some_passes}
use Rattle.outlines.proofs.FillingLaws.{one}
use Rattle.outlines.proofs.OutlineLaws.{differ_by}

-- ---- the order of the turns

abbrev pub place_of_turn : Turn → ℤ × ℤ
place_of_turn turn = (turn.row, turn.column)

-- how a sort compares places
abbrev pub place_cmp : ℤ × ℤ → ℤ × ℤ → Ordering
place_cmp x y = ordering_then (int_cmp x.0 y.0) (int_cmp x.1 y.1)

place_total : IsTotalOrder place_cmp
place_total = then_total (on_total (λ (p : ℤ × ℤ). p.0) int_cmp_total) (on_total (λ (p : ℤ × ℤ). p.1) int_cmp_total)

no_later : (a b c d : ℤ) → is_lt (ordering_then (int_cmp c a) (int_cmp d b)) ≡ false → (a <ℤ c) ⊎ ((a ≡ c) × (b ≤ℤ d))
no_later a b c d h = by_ranked (c <ℤ a) (c ≡ a) (a <ℤ c) (int_cmp c a) (int_ranked c a (int_cmp c a) refl)
    (λ e less. let f = subst (λ o. is_lt (ordering_then o (int_cmp d b)) ≡ false) e h in absurd (cc f))
    (λ e same. let f = subst (λ o. is_lt (ordering_then o (int_cmp d b)) ≡ false) e h in inr (sym same, not_less d b f))
    (λ e more. inl more)

AreByRow-from_sorted : (turns : List Turn) → IsSortedByKey place_of_turn place_cmp turns → AreByRow turns
AreByRow-from_sorted turns up i j d before within =
    let a = get_or turns i d in
    let b = get_or turns j d in
    no_later a.row a.column b.row b.column (sorted_far (λ x y. is_lt (place_cmp (place_of_turn x) (place_of_turn y))) (ranks_by place_total place_of_turn) turns up i j d (omega arith) within)

pub by_row_from_sort : {F : Type 0} {g : Mut F (Bor Turn × Unit {0}) (ℤ × ℤ)} {f : F} (turns : List Turn)
    → ((key : Turn → ℤ × ℤ) → ComputesKey g key f → IsSortedByKey key place_cmp turns)
    → ((a : Bor Turn × Unit {0}) (r : ℤ × ℤ) (f' : F) → Called g f a r f' → (r ≡ place_of_turn a.0.now) × (f' ≡ f)) → AreByRow turns
by_row_from_sort {g = g} {f = f} turns up h = AreByRow-from_sorted turns (up place_of_turn (always_returns_same g (λ a r. r ≡ place_of_turn a.0.now) f h))

-- in another order they wind as often
module _ (turns sorted : List Turn) (moved : IsPermutation turns sorted) where
  count_moved : (test : Turn → Bool) → count_by test sorted ≡ count_by test turns
  count_moved test = sum_by-IsPermutation (λ t. one (test t)) turns sorted moved

  pub balanced_moved : AreBalanced turns → AreBalanced sorted
  balanced_moved balanced = record {
    level = λ row. count_moved (λ t. rises_at everywhere t && int_le t.row row) ∙ balanced.level row ∙ sym (count_moved (λ t. falls_at everywhere t && int_le t.row row));
    ended = λ at. count_moved (rises_at at) ∙ balanced.ended at ∙ sym (count_moved (falls_at at));
  }

  pub cover_moved : (rects : List Rect) → IsCover (IsWound sorted) rects → IsCover (IsWound turns) rects
  cover_moved rects cover = record {
    same = λ c.
        let up = count_moved (λ t. rises_at (up_to c.i) t && int_le t.row c.j) in
        let down = count_moved (λ t. falls_at (up_to c.i) t && int_le t.row c.j) in
        (λ h e. (cover.same c).0 h (up ∙ e ∙ sym down), λ differ. (cover.same c).1 (λ e. differ (sym up ∙ e ∙ down)));
    within = cover.within;
  }

-- ---- the turns that were passed

-- of the turns up to a row, those in front lie in it or below, the others above it
module _ (turns : List Turn) (n : ℕ) (row : ℤ) (below : All (λ t. t.row ≤ℤ row) (take n turns)) (above : All (λ t. row <ℤ t.row) (drop n turns)) where
  pub passed_below : (test : Turn → Bool) → count_by (λ t. test t && int_le t.row row) turns ≡ count_by test (take n turns)
  passed_below test =
      let split = sum_by-take-drop (λ t. one (test t && int_le t.row row)) turns n in
      let front = count_agree (λ t. test t && int_le t.row row) test (take n turns) (λ k d small. rw (le_true (get_or (take n turns) k d).row row (below k d small)) (and-true (test (get_or
      (take n turns) k d)))) in
      let back = count_none (λ t. test t && int_le t.row row) (drop n turns)
      (λ k d small. and_right (test (get_or (drop n turns) k d)) (int_le (get_or (drop n turns) k d).row row) (le_false (get_or (drop n turns) k d).row row (above k d small))) in
      omega (arith, split, front, back)

  -- where it winds at a column
  pub wound_below : (c : Cell) → c.j ≡ row → IsWound turns c ↔ (turned (up_to c.i) (take n turns) ≢ pos 0)
  wound_below c at =
      let up : rises_below (up_to c.i) c.j turns ≡ count_by (rises_at (up_to c.i)) (take n turns) = rw at (passed_below (rises_at (up_to c.i))) in
      let down : falls_below (up_to c.i) c.j turns ≡ count_by (falls_at (up_to c.i)) (take n turns) = rw at (passed_below (falls_at (up_to c.i))) in
      let by = differ_by (count_by (rises_at (up_to c.i)) (take n turns)) (count_by (falls_at (up_to c.i)) (take n turns)) in
      (λ differ. by.0 (λ e. differ (up ∙ e ∙ sym down)), λ winds e. by.1 winds (sym up ∙ e ∙ down))

  pub level_row : AreBalanced turns → turned everywhere (take n turns) ≡ pos 0
  level_row balanced =
      let up = passed_below (rises_at everywhere) in
      let down = passed_below (falls_at everywhere) in
      let same = balanced.level row in
      omega (arith, ints, up, down, same)

-- a turn more
pub one_turn : (at : ℤ → Bool) (turns : List Turn) (n : ℕ) (t : Turn) → n < length turns → get_or turns n t ≡ t
    → turned at (take (n + 1) turns) ≡ turned at (take n turns) +ℤ cond (at t.column) (cond t.rises (pos 1) (negsuc 0)) (pos 0)
one_turn at turns n t small is =
    let up : count_by (rises_at at) (take (n + 1) turns) ≡ count_by (rises_at at) (take n turns) + one (rises_at at t) =
    sum_by_more (λ x. one (rises_at at x)) turns n t small ∙ ap (λ x. count_by (rises_at at) (take n turns) + one (rises_at at x)) is in
    let down : count_by (falls_at at) (take (n + 1) turns) ≡ count_by (falls_at at) (take n turns) + one (falls_at at t) =
    sum_by_more (λ x. one (falls_at at x)) turns n t small ∙ ap (λ x. count_by (falls_at at) (take n turns) + one (falls_at at x)) is in
    sums _ _ _ _ (at t.column) t.rises up down where
      sums : (a b a' b' : ℕ) (there rises : Bool) → a' ≡ a + one (there && rises) → b' ≡ b + one (there && not rises)
          → (pos a' -ℤ pos b') ≡ (pos a -ℤ pos b) +ℤ cond there (cond rises (pos 1) (negsuc 0)) (pos 0)
      sums a b a' b' true true e f = omega (arith, ints)
      sums a b a' b' true false e f = omega (arith, ints)
      sums a b a' b' false true e f = omega (arith, ints)
      sums a b a' b' false false e f = omega (arith, ints)

-- it does not wind more often than there are turns
pub few_turns : (at : ℤ → Bool) (turns : List Turn) (n : ℕ) → length turns < 2 ^ 63 → FitsSigned w64 (turned at (take n turns))
few_turns at turns n short =
    let up = count_by-le-length (rises_at at) (take n turns) in
    let down = count_by-le-length (falls_at at) (take n turns) in
    let most = length-take n turns in
    fits (count_by (rises_at at) (take n turns)) (count_by (falls_at at) (take n turns)) (omega arith) (omega arith) where
      fits : (a b : ℕ) → a < 2 ^ 63 → b < 2 ^ 63 → FitsSigned w64 (pos a -ℤ pos b)
      fits a b h k = omega (arith, ints)

-- ---- how far the sweep has come

-- The windings are those of the turns so far, but that on the right of the column some is still to be added; and what lies below the row is
-- filled.
pub record HasTurned (turns : List Turn) (n : ℕ) (row column by : ℤ) (front : Front) : Type 0 where
  pub windings : (i : ℤ) → winding_at i front.pieces.items +ℤ cond (int_le column i) by (pos 0) ≡ turned (up_to i) (take n turns)
  pub drawn : IsDrawn row front
  pub filled : (c : Cell) → c.j <ℤ row → (0 < filled_at c row front.filling) ↔ IsWound turns c

pub record IsSweptTo (turns : List Turn) (n : ℕ) (row column by : ℤ) (front : Front) : Type 0 where
  pub state : HasTurned turns n row column by front
  pub whole : by ≡ turned everywhere (take n turns)
  pub passed : All (λ t. t.row ≤ℤ row) (take n turns)
  pub ahead : (k : ℕ) (d : Turn) → n ≤ k → k < length turns → (row <ℤ (get_or turns k d).row) ⊎ ((row ≡ (get_or turns k d).row) × (column ≤ℤ (get_or turns k d).column))
  pub left : neg_ℤ FARTHEST ≤ℤ column
  pub right : column ≤ℤ FARTHEST
  pub bottom : neg_ℤ FARTHEST ≤ℤ row
  pub top : row ≤ℤ FARTHEST

pub swept_none : (turns : List Turn) (front : Front) → front.pieces.items ≡ [] → ((row : ℤ) → IsDrawn row front) → ((c : Cell) (row : ℤ) → filled_at c row front.filling ≡ 0)
    → IsSweptTo turns 0 (neg_ℤ FARTHEST) (neg_ℤ FARTHEST) (pos 0) front
swept_none turns front none drawn empty = record {
  state = record {
    windings = λ i. ap (λ ps. winding_at i ps +ℤ cond (int_le (neg_ℤ FARTHEST) i) (pos 0) (pos 0)) none ∙ zeros (int_le (neg_ℤ FARTHEST) i);
    drawn = drawn (neg_ℤ FARTHEST);
    filled = λ c less. (
      λ some. absurd (omega (arith, empty c (neg_ℤ FARTHEST))),
      λ winds. absurd (winds (none_below c less (λ t. rises_at (up_to c.i) t) ∙ sym (none_below c less (λ t. falls_at (up_to c.i) t)))),
    );
  };
  whole = refl;
  passed = λ k d small. absurd (omega arith);
  ahead = λ k d from small.
      let t = get_or turns k d in let left = t.left in let bottom = t.bottom in
      by_lt_z (neg_ℤ FARTHEST) t.row (λ l. inl l) (λ l. inr (omega (arith, ints), left));
  left = omega (arith, ints);
  right = omega (arith, ints);
  bottom = omega (arith, ints);
  top = omega (arith, ints);
} where
  none_below : (c : Cell) → c.j <ℤ neg_ℤ FARTHEST → (test : Turn → Bool) → count_by (λ t. test t && int_le t.row c.j) turns ≡ 0
  none_below c less test = count_none (λ t. test t && int_le t.row c.j) turns (λ k d small.
      let t = get_or turns k d in
      let bottom = t.bottom in
      and_right (test t) (int_le t.row c.j) (le_false t.row c.j (omega (arith, ints))))

  zeros : (t : Bool) → pos 0 +ℤ cond t (pos 0) (pos 0) ≡ pos 0 -ℤ pos 0
  zeros true = refl
  zeros false = refl

-- the turns that are left lie above a row where the next one does
rows_behind : (turns : List Turn) (n : ℕ) (row : ℤ) (t : Turn) → AreByRow turns → n < length turns → get_or turns n t ≡ t → row <ℤ t.row → All (λ x. row <ℤ x.row) (drop n turns)
rows_behind turns n row t by_row small is above k d within =
    let rest = length-drop n turns in
    subst (λ (x : Turn). row <ℤ x.row) (sym (get_or-drop n turns k d)) (elim (cases_lt 0 k) [
      | inl more ↦
          let next = by_row n (n + k) d (omega arith) (omega arith) in
          let at : get_or turns n d ≡ t = get_or_default turns n d t small ∙ is in
          elim (subst (λ x. IsNoLater x (get_or turns (n + k) d)) at next) [
            | inl l ↦ omega (arith, ints)
            | inr p ↦ let e = p.0 in omega (arith, ints)
          ]
      | inr none ↦
          let e : n ≡ n + k = omega arith in
          subst (λ m. row <ℤ (get_or turns m d).row) e (subst (λ (x : Turn). row <ℤ x.row) (sym (get_or_default turns n d t small ∙ is)) above)
    ])

-- ---- from turn to turn

-- where nothing is to be added, or the columns lie in order, it is added up to the next turn
adds_nothing : (w v by sum : ℤ) (a b c : Bool) → by ≡ pos 0 → w +ℤ cond a by (pos 0) ≡ sum → v ≡ w +ℤ cond b by (pos 0) → v +ℤ cond c by (pos 0) ≡ sum
adds_nothing w v by sum true true true e f g = omega (arith, ints)
adds_nothing w v by sum true true false e f g = omega (arith, ints)
adds_nothing w v by sum true false true e f g = omega (arith, ints)
adds_nothing w v by sum true false false e f g = omega (arith, ints)
adds_nothing w v by sum false true true e f g = omega (arith, ints)
adds_nothing w v by sum false true false e f g = omega (arith, ints)
adds_nothing w v by sum false false true e f g = omega (arith, ints)
adds_nothing w v by sum false false false e f g = omega (arith, ints)

adds_up_to : (w v by sum low high i : ℤ) → low ≤ℤ high → w +ℤ cond (int_le low i) by (pos 0) ≡ sum → v ≡ w +ℤ cond (lies_in low high i) by (pos 0) → v +ℤ cond (int_le high i) by (pos 0) ≡ sum
adds_up_to w v by sum low high i le were more = by_lt_z i low
    (λ l. let was = rw (le_false low i l) at were in let now = rw (le_false low i l) at more in rw (le_false high i (omega (arith, ints))) (omega (arith, ints)))
    (λ l. by_lt_z i high
    (λ m. let was = rw (le_true low i l) at were in let now = rw (le_true low i l, lt_true i high m) at more in rw (le_false high i m) (omega (arith, ints)))
    (λ m. let was = rw (le_true low i l) at were in let now = rw (le_true low i l, lt_false i high m) at more in rw (le_true high i m) (omega (arith, ints))))

module _ (turns : List Turn) (n : ℕ) (row column by : ℤ) (front : Front) (swept : IsSweptTo turns n row column by front) (t : Turn) (small : n < length turns) (is : get_or turns n t ≡ t)
    (by_row : AreByRow turns) (balanced : AreBalanced turns) where
  -- a turn in a higher row finds nothing to be added
  nothing_left : row <ℤ t.row → by ≡ pos 0
  nothing_left above = swept.whole ∙ level_row turns n row swept.passed (rows_behind turns n row t by_row small is above) balanced

  ahead_of : (row <ℤ t.row) ⊎ ((row ≡ t.row) × (column ≤ℤ t.column))
  ahead_of = subst (λ (x : Turn). (row <ℤ x.row) ⊎ ((row ≡ x.row) × (column ≤ℤ x.column))) is (swept.ahead n t (omega arith) small)

  -- what is still to be added fits
  pub still_fits : length turns < 2 ^ 63 → (i : ℤ) → column ≤ℤ i → FitsSigned w64 (winding_at i front.pieces.items +ℤ by)
  still_fits short i right = subst (FitsSigned w64) (sym (rw (le_true column i right) at (swept.state.windings i))) (few_turns (up_to i) turns n short)

  pub amount_fits : length turns < 2 ^ 63 → FitsSigned w64 (by +ℤ cond t.rises (pos 1) (negsuc 0))
  amount_fits short =
      subst (FitsSigned w64) (one_turn everywhere turns n t small is ∙ ap (λ z. z +ℤ cond t.rises (pos 1) (negsuc 0)) (sym swept.whole)) (few_turns everywhere turns (n + 1) short)

  pub turned_to : (after : Front) → TurnsBetween column t.column by row front after → HasTurned turns n row t.column by after
  turned_to after between = record {
    windings = λ i.
        let were = swept.state.windings i in
        let more = between.more.more i in
        elim ahead_of [
          | inl above ↦ adds_nothing (winding_at i front.pieces.items) (winding_at i after.pieces.items) by _ (int_le column i) (lies_in column t.column i) (int_le t.column i)
              (nothing_left above) were more
          | inr same ↦ adds_up_to (winding_at i front.pieces.items) (winding_at i after.pieces.items) by _ column t.column i same.1 were more
        ];
    drawn = between.drawn;
    filled = λ c less. let was = swept.state.filled c less in let same = between.cells c in (λ some. was.0 (rw (← same) some), λ winds. rw same (was.1 winds));
  }

  module _ (after : Front) (state : HasTurned turns n row t.column by after) where
    -- a column of the rows between is filled where the outline winds round it
    between_rows : (c : Cell) → row ≤ℤ c.j → c.j <ℤ t.row → (0 < filled_at c t.row after.filling) ↔ IsWound turns c
    between_rows c from less =
        let growing = state.drawn.growing in
        let runs = count_agree (has_below c t.row) (λ (r : Run). lies_in r.low r.high c.i) (runs_of after.filling) (λ k d within.
        let r = get_or (runs_of after.filling) k d in
        let begun = growing.begun k d within in
        rw (le_true r.from c.j (omega (arith, ints)), lt_true c.j t.row less) (and-true (lies_in r.low r.high c.i))) in
        let none = growing.below c from in
        let same : filled_at c t.row after.filling ≡ runs_at c.i (runs_of after.filling) = omega (arith, runs, none) in
        let below = All-weaker (λ (x : Turn). x.row ≤ℤ row) (λ x. x.row ≤ℤ c.j) (λ x l. omega (arith, ints)) (take n turns) swept.passed in
        let wound = wound_below turns n c.j below (rows_behind turns n c.j t by_row small is less) c refl in
        let nothing = nothing_left (omega (arith, ints)) in
        let winding : winding_at c.i after.pieces.items ≡ turned (up_to c.i) (take n turns) = with_nothing (winding_at c.i after.pieces.items) by (int_le t.column c.i) nothing
        ∙ state.windings c.i in (
          λ some. wound.1 (λ zero. (state.drawn.inside c.i).0 (rw (← same) some) (winding ∙ zero)),
          λ winds. rw same ((state.drawn.inside c.i).1 (λ zero. wound.0 winds (sym winding ∙ zero))),
        ) where
          with_nothing : (z by : ℤ) (t : Bool) → by ≡ pos 0 → z ≡ z +ℤ cond t by (pos 0)
          with_nothing z by true e = omega (arith, ints)
          with_nothing z by false e = omega (arith, ints)

    -- up to a higher row the runs have what they had
    still : (c : Cell) → c.j <ℤ row → row <ℤ t.row → filled_at c t.row after.filling ≡ filled_at c row after.filling
    still c less above =
        let runs = count_agree (has_below c t.row) (has_below c row) (runs_of after.filling)
        (λ k d within. rw (lt_true c.j row less, lt_true c.j t.row (omega (arith, ints))) refl) in
        omega (arith, runs)

    higher : row <ℤ t.row → (c : Cell) → c.j <ℤ t.row → (0 < filled_at c t.row after.filling) ↔ IsWound turns c
    higher above c less = by_lt_z c.j row
        (λ l. let same = still c l above in let was = state.filled c l in (λ some. was.0 (rw (← same) some), λ winds. rw same (was.1 winds)))
        (λ l. between_rows c l less)

    risen : row <ℤ t.row → IsDrawn t.row after
    risen above = let growing = state.drawn.growing in record {
      rising = state.drawn.rising;
      inside = state.drawn.inside;
      growing = record {
        apart = growing.apart;
        begun = All-weaker (λ r. r.from ≤ℤ row) (λ r. r.from ≤ℤ t.row) (λ r l. omega (arith, ints)) (runs_of after.filling) growing.begun;
        below = λ c l. growing.below c (omega (arith, ints));
        within = growing.within;
      };
    }

    -- the same, seen from the row of the turn
    at_turn : IsDrawn t.row after × ((c : Cell) → c.j <ℤ t.row → (0 < filled_at c t.row after.filling) ↔ IsWound turns c)
    at_turn = elim ahead_of [
      | inl above ↦ (risen above, higher above)
      | inr same ↦ (subst (λ r. IsDrawn r after) same.0 state.drawn, subst (λ r. (c : Cell) → c.j <ℤ r → (0 < filled_at c r after.filling) ↔ IsWound turns c) same.0 state.filled)
    ]

    up_the_rows : (r : ℤ) → r ≤ℤ row → r ≤ℤ t.row
    up_the_rows r l = elim ahead_of [
      | inl above ↦ omega (arith, ints)
      | inr same ↦ let s = same.0 in omega (arith, ints)
    ]

    pub turn_passed : (by' : ℤ) → by' ≡ by +ℤ cond t.rises (pos 1) (negsuc 0) → IsSweptTo turns (n + 1) t.row t.column by' after
    turn_passed by' e = record {
      state = record {
        windings = λ i. added (winding_at i after.pieces.items) by by' _ _ _ (int_le t.column i) e (state.windings i) (one_turn (up_to i) turns n t small is);
        drawn = at_turn.0;
        filled = at_turn.1;
      };
      whole = e ∙ ap (λ z. z +ℤ cond t.rises (pos 1) (negsuc 0)) swept.whole ∙ sym (one_turn everywhere turns n t small is);
      passed = All-more (λ x. x.row ≤ℤ t.row) turns n t small
          (All-weaker (λ x. x.row ≤ℤ row) (λ x. x.row ≤ℤ t.row) (λ x l. up_the_rows x.row l) (take n turns) swept.passed)
          (subst (λ (x : Turn). x.row ≤ℤ t.row) (sym is) (omega (arith, ints)));
      ahead = λ k d more within. subst (λ x. IsNoLater x (get_or turns k d)) (get_or_default turns n d t small ∙ is) (by_row n k d (omega arith) within);
      left = t.left;
      right = t.right;
      bottom = t.bottom;
      top = t.top;
    } where
      added : (w by by' step sum next : ℤ) (there : Bool) → by' ≡ by +ℤ step → w +ℤ cond there by (pos 0) ≡ sum → next ≡ sum +ℤ cond there step (pos 0)
          → w +ℤ cond there by' (pos 0) ≡ next
      added w by by' step sum next true e f g = omega (arith, ints)
      added w by by' step sum next false e f g = omega (arith, ints)

-- ---- rectangles and their cells

in_by_test : (low high x : ℤ) → lies_in low high x ≡ true → IsIn low high x
in_by_test low high x e = record { from = grind (arith, ints); before = grind (arith, ints) }

has_by_test : (c : Cell) (rect : Rect) → has_cell c rect ≡ true → Has rect c
has_by_test c rect e =
    let a = and_parts (lies_in rect.x0 rect.x1 c.i) (lies_in rect.y0 rect.y1 c.j) e in
    record { across = in_by_test rect.x0 rect.x1 c.i a.0; up = in_by_test rect.y0 rect.y1 c.j a.1 }

test_by_has : (c : Cell) (rect : Rect) → Has rect c → has_cell c rect ≡ true
test_by_has c rect h = let a = h.across.from in let b = h.across.before in let d = h.up.from in let f = h.up.before in
    rw (le_true rect.x0 c.i a, lt_true c.i rect.x1 b, le_true rect.y0 c.j d, lt_true c.j rect.y1 f) refl

depth_tells : (c : Cell) (rects : List Rect) → IsInUnion rects c ↔ (0 < depth_at c rects)
depth_tells c rects = (
  λ h. passes_count (has_cell c) rects h.rect (Contains-slice_get rects h.number h.rect h.at) (test_by_has c h.rect h.has),
  λ some.
      let found = some_passes (has_cell c) rects some in
      let place = number_of rects found.0 found.1 in
      record { number = place.0; rect = found.0; at = place.1; has = has_by_test c found.0 found.2 },
)

-- ---- all turns

-- no run is left where none has a column
none_left : (runs : List Run) → ((i : ℤ) → runs_at i runs ≡ 0) → runs ≡ []
none_left [] none = refl
none_left (r ∷ runs) none =
    let some = r.columns.some in
    let there = passes_count (λ (s : Run). lies_in s.low s.high r.low) (r ∷ runs) r (Contains-head r runs) (rw (le_true r.low r.low (omega (arith, ints)), lt_true r.low r.high some) refl) in
    absurd (omega (arith, there, none r.low))

module _ (turns : List Turn) (n : ℕ) (row column by : ℤ) (front : Front) (past : length turns ≤ n) (balanced : AreBalanced turns) (swept : IsSweptTo turns n row column by front) where
  all_taken : take n turns ≡ turns
  all_taken = take_all n turns past

  level_at_end : (at : ℤ → Bool) → turned at (take n turns) ≡ pos 0
  level_at_end at = ap (turned at) all_taken ∙ same_counts _ _ (balanced.ended at) where
    same_counts : (a b : ℕ) → a ≡ b → pos a -ℤ pos b ≡ pos 0
    same_counts a b e = omega (arith, ints)

  -- the outline winds round no column behind the last turn, so no run grows on
  no_runs : (runs_of front.filling) ≡ []
  no_runs = none_left (runs_of front.filling) (λ i.
      not_some (runs_at i (runs_of front.filling))
      (λ some. (swept.state.drawn.inside i).0 some (zero_there (winding_at i front.pieces.items) by _ (int_le column i) (swept.whole
      ∙ level_at_end everywhere) (swept.state.windings i) (level_at_end (up_to i))))) where
        not_some : (m : ℕ) → (0 < m → ⊥) → m ≡ 0
        not_some m h = omega (arith, h)

        zero_there : (w by sum : ℤ) (t : Bool) → by ≡ pos 0 → w +ℤ cond t by (pos 0) ≡ sum → sum ≡ pos 0 → w ≡ pos 0
        zero_there w by sum true e f g = omega (arith, ints)
        zero_there w by sum false e f g = omega (arith, ints)

  only_done : (c : Cell) → filled_at c row front.filling ≡ depth_at c front.filling.done.items
  only_done c = let none = ap (count_by (has_below c row)) no_runs in omega (arith, none)

  level_above : (c : Cell) → row ≤ℤ c.j → rises_below (up_to c.i) c.j turns ≡ falls_below (up_to c.i) c.j turns
  level_above c above =
      let below = All-weaker (λ (x : Turn). x.row ≤ℤ row) (λ x. x.row ≤ℤ c.j) (λ x l. omega (arith, ints)) (take n turns) swept.passed in
      let nothing : All (λ (x : Turn). c.j <ℤ x.row) (drop n turns) = rw (drop_all n turns past) (λ k d within. absurd (omega arith)) in
      passed_below turns n c.j below nothing (rises_at (up_to c.i)) ∙ ap (count_by (rises_at (up_to c.i))) all_taken ∙ balanced.ended (up_to c.i)
      ∙ sym (passed_below turns n c.j below nothing (falls_at (up_to c.i)) ∙ ap (count_by (falls_at (up_to c.i))) all_taken)

  -- what is finished has the cells round which it winds
  pub all_swept : IsCover (IsWound turns) front.filling.done.items
  all_swept = record {
    same = λ c.
        let told = depth_tells c front.filling.done.items in
        by_lt_z c.j row
        (λ less. let was = swept.state.filled c less in (λ h. was.0 (rw (only_done c) (told.0 h)), λ winds. told.1 (rw (← only_done c) (was.1 winds))))
        (λ above. (λ h. absurd (omega (arith, told.0 h, swept.state.drawn.growing.below c above)), λ winds. absurd (winds (level_above c above))));
    within = swept.state.drawn.growing.within;
  }
