-- bars of rectangles, one by one
use Rattle.std.proofs.Common.{ℕ, suc, ◌+◌, ◌<◌, ◌≤◌, ◌≡◌, refl, sym, ap, arith, inl, inr, ◌⊎◌, List, [], ◌∷◌, ◌++◌, length, get_or, Bool, true, false, cond, ◌&&◌, nat_le, ℤ, ◌≤ℤ◌, ◌<ℤ◌, int_le, int_lt, length-append}
use Rattle.lists.proofs.Words.{and_parts, le-leb, nat_tests, ints, All-push, sum_by_push}
use Rattle.std.specs.Cmp.Derive.{both_true}
use Rattle.geo_core.specs.Plane.{Has}
use Rattle.geo_core.specs.declared.plane.Cell.{Cell}
use Rattle.geo_core.specs.declared.plane.Rect.{Rect}
use Rattle.cover_tree.specs.Columns.{AreRising, place_at}
use Rattle.cover_tree.proofs.laws.ColumnLaws.{place_at-le}
use Rattle.depth_sweep.specs.RectSides.{IsSideOf}
use Rattle.depth_sweep.specs.declared.bar.Bar.{Bar}
use Rattle.depth_sweep.specs.inside.Bars.{has_column, has_row, IsWithin, IsBarOf, HasNoPart, AreBarsOf}
use Rattle.skyline_runs.specs.Depths.{has_cell}
use Rattle.depth_sweep.specs.inside.SweepPlaces.{moved, IsInColumn}
use Rattle.skyline_runs.proofs.laws.DepthLaws.{le_true, lt_true, from_le, from_lt, has_so, has_from, has_not}
use Rattle.depth_sweep.proofs.PlaceLaws.{moved_low, moved_high, moved_behind, behind_moved, moved_before, before_moved, less_by_place}

-- two tests that are true together
same_tests : (s t : Bool) → (s ≡ true → t ≡ true) → (t ≡ true → s ≡ true) → s ≡ t
same_tests true t f g = sym (f refl)
same_tests false true f g = g refl
same_tests false false f g = refl

-- ---- one bar

-- a rectangle that is empty along an axis once it is moved into the window has no cell there
pub no_part : (window rect : Rect) → (moved window.x0 window.x1 rect.x1 ≤ℤ moved window.x0 window.x1 rect.x0) ⊎ (moved window.y0 window.y1 rect.y1 ≤ℤ moved window.y0 window.y1 rect.y0)
    → HasNoPart window rect
no_part window rect empty c w = has_not c rect (λ h. elim empty [
  | inl e ↦
      let low = moved_behind window.x0 window.x1 rect.x0 c.i w.across h.across.from in
      let high = moved_before window.x0 window.x1 rect.x1 c.i w.across h.across.before in
      absurd (omega (arith, ints))
  | inr e ↦
      let low = moved_behind window.y0 window.y1 rect.y0 c.j w.up h.up.from in
      let high = moved_before window.y0 window.y1 rect.y1 c.j w.up h.up.before in
      absurd (omega (arith, ints))
])

module _ (places : List ℤ) (rising : AreRising places) (column : ℕ) (x : ℤ) (here : IsInColumn places column x) where
  -- a place lies at the number or before it exactly where its own number is at most the column's
  number_behind : (low : ℕ) → place_at places low ≤ℤ x → low ≤ column
  number_behind low h = let b = here.in_it.before in let less = less_by_place places rising low (suc column) (omega (arith, ints)) in omega arith

  behind_number : (low : ℕ) → low ≤ column → place_at places low ≤ℤ x
  behind_number low h = let a = here.in_it.from in let order = place_at-le places rising low column h in omega (arith, ints)

  number_before : (high : ℕ) → x <ℤ place_at places high → column + 1 ≤ high
  number_before high h = let a = here.in_it.from in let less = less_by_place places rising column high (omega (arith, ints)) in omega arith

  before_number : (high : ℕ) → column + 1 ≤ high → x <ℤ place_at places high
  before_number high h = let b = here.in_it.before in let order = place_at-le places rising (suc column) high (omega arith) in omega (arith, ints)

-- the sides of the rectangle, moved into the window, are those of the bar
pub record HasMovedSides (window rect : Rect) (places : List ℤ) (bar : Bar) : Type 0 where
  pub left : place_at places bar.low ≡ moved window.x0 window.x1 rect.x0
  pub right : place_at places bar.high ≡ moved window.x0 window.x1 rect.x1
  pub bottom : bar.bottom ≡ moved window.y0 window.y1 rect.y0
  pub top : bar.top ≡ moved window.y0 window.y1 rect.y1

module _ (window rect : Rect) (places : List ℤ) (rising : AreRising places) (bar : Bar) (sides : HasMovedSides window rect places bar) (column : ℕ) (c : Cell)
    (here : IsInColumn places column c.i) (w : Has window c) where
  from_bar : has_column column bar && has_row c.j bar ≡ true → has_cell c rect ≡ true
  from_bar t =
      let both = and_parts (has_column column bar) (has_row c.j bar) t in
      let across = and_parts (nat_le bar.low column) (nat_le (column + 1) bar.high) both.0 in
      let up = and_parts (int_le bar.bottom c.j) (int_lt c.j bar.top) both.1 in
      let from : bar.low ≤ column = grind (arith, nat_tests) in
      let to : column + 1 ≤ bar.high = grind (arith, nat_tests) in
      let left = behind_number places rising column c.i here bar.low from in
      let right = before_number places rising column c.i here bar.high to in
      let bottom = from_le bar.bottom c.j up.0 in let top = from_lt c.j bar.top up.1 in
      let a = sides.left in let b = sides.right in let d = sides.bottom in let e = sides.top in
      has_so c rect (record {
        across = record {
          from = behind_moved window.x0 window.x1 rect.x0 c.i w.across (omega (arith, ints));
          before = before_moved window.x0 window.x1 rect.x1 c.i w.across (omega (arith, ints));
        };
        up = record {
          from = behind_moved window.y0 window.y1 rect.y0 c.j w.up (omega (arith, ints));
          before = before_moved window.y0 window.y1 rect.y1 c.j w.up (omega (arith, ints));
        };
      })

  to_bar : has_cell c rect ≡ true → has_column column bar && has_row c.j bar ≡ true
  to_bar t =
      let h = has_from c rect t in
      let a = sides.left in let b = sides.right in let d = sides.bottom in let e = sides.top in
      let left = moved_behind window.x0 window.x1 rect.x0 c.i w.across h.across.from in
      let right = moved_before window.x0 window.x1 rect.x1 c.i w.across h.across.before in
      let bottom = moved_behind window.y0 window.y1 rect.y0 c.j w.up h.up.from in
      let top = moved_before window.y0 window.y1 rect.y1 c.j w.up h.up.before in
      both_true
      (both_true
      (le-leb bar.low column (number_behind places rising column c.i here bar.low (omega (arith, ints))))
      (le-leb (column + 1) bar.high (number_before places rising column c.i here bar.high (omega (arith, ints)))))
      (both_true (le_true bar.bottom c.j (omega (arith, ints))) (lt_true c.j bar.top (omega (arith, ints))))

pub bar_is : (window rect : Rect) (places : List ℤ) → AreRising places → (bar : Bar) → bar.high < length places → HasMovedSides window rect places bar → IsBarOf window places rect bar
bar_is window rect places rising bar high sides = record {
  within = record {
    high = high;
    bottom = let e = sides.bottom in let l = moved_low window.y0 window.y1 rect.y0 (let s = window.up.some in omega (arith, ints)) in omega (arith, ints);
    top = let e = sides.top in let l = moved_high window.y0 window.y1 rect.y1 (let s = window.up.some in omega (arith, ints)) in omega (arith, ints);
  };
  same = λ column c here w. same_tests (has_column column bar && has_row c.j bar) (has_cell c rect)
      (from_bar window rect places rising bar sides column c here w) (to_bar window rect places rising bar sides column c here w);
}

-- ---- the bars so far

pub bars_begun : (window : Rect) (places : List ℤ) → AreBarsOf window [] places []
bars_begun window places = record {
  count = omega arith;
  within = λ k d s. absurd (omega arith);
  same = λ column c here w. refl;
  none = λ e k d s. absurd (omega arith);
}

module _ (window : Rect) (rects : List Rect) (places : List ℤ) (bars : List Bar) (rect : Rect) (h : AreBarsOf window rects places bars) where
  pub one_bar : (bar : Bar) → IsBarOf window places rect bar → AreBarsOf window (rects ++ rect ∷ []) places (bars ++ bar ∷ [])
  one_bar bar is = record {
    count = let n = h.count in omega (arith, length-append bars (bar ∷ []), length-append rects (rect ∷ []));
    within = All-push (IsWithin window places) bars bar h.within is.within;
    same = λ column c here w.
        let more = sum_by_push (λ (b : Bar). cond (has_column column b && has_row c.j b) 1 0) bars bar in
        let deeper = sum_by_push (λ (r : Rect). cond (has_cell c r) 1 0) rects rect in
        let before = h.same column c here w in
        let one = ap {B = ℕ} (λ t. cond t 1 0) (is.same column c here w) in
        omega (arith, more, deeper, before, one);
    none = λ e. absurd (omega (arith, length-append bars (bar ∷ [])));
  }

  pub no_bar : HasNoPart window rect → AreBarsOf window (rects ++ rect ∷ []) places bars
  no_bar not = record {
    count = let n = h.count in omega (arith, length-append rects (rect ∷ []));
    within = h.within;
    same = λ column c here w.
        let deeper = sum_by_push (λ (r : Rect). cond (has_cell c r) 1 0) rects rect in
        let before = h.same column c here w in
        let none = ap {B = ℕ} (λ t. cond t 1 0) (not c w) in
        omega (arith, deeper, before, none);
    none = λ e. All-push (HasNoPart window) rects rect (h.none e) not;
  }

-- a side of an item that was read
pub item_side : (rects : List Rect) (k : ℕ) (rect : Rect) → k < length rects → rect ≡ get_or rects k rect → (x : ℤ) → (x ≡ rect.x0) ⊎ (x ≡ rect.x1) → IsSideOf rects x
item_side rects k rect small is x side = record { rect = rect; among = (k, small, sym is); side = side }
