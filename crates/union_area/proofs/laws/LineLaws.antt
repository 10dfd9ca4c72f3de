-- lines of cells: where a property does not change along an axis, the window's tally is that of its first line, so many times
use Rattle.std.proofs.Common.{ℕ, suc, ◌+◌, ◌*◌, ◌<◌, ◌≤◌, ◌≡◌, refl, ap, subst, List, [], ◌∷◌, length, arith, ℤ, pos, ◌+ℤ◌, ◌-ℤ◌, ◌<ℤ◌, Contains, map, ◌↔◌}
use Rattle.std.proofs.lemmas.List.{append-nil}
use Rattle.lists.proofs.Words.{flat_map, ints, mul-le}
use Rattle.lists.proofs.Containing.{Contains-head, Contains-tail}
use Rattle.geo_core.specs.Plane.{Has, low_along, high_along}
use Rattle.geo_core.specs.declared.axis.Axis.{Axis}
use Rattle.geo_core.specs.declared.axis.Axis.TheVariants.{X, Y}
use Rattle.geo_core.specs.declared.plane.Cell.{Cell}
use Rattle.geo_core.specs.declared.plane.Rect.{Rect}
use Rattle.geo_core.proofs.RectLaws.{same_cells_same_rect}
use Rattle.fault_model.specs.FaultNames.{Tally, none, hit, miss, from, or_zero, range, row, cells_of}
use Rattle.fault_model.proofs.RangeLaws.{Contains-range, Tally-all, Tally-never, Tally-times, or_zero_is, length-range}
use Rattle.fault_model.proofs.TallyLaws.{Tally-append, Tally-unique}
use Rattle.union_area.proofs.laws.PartLaws.{Always, all_of, some_cell}
use Rattle.union_area.proofs.CutLaws.{HasEnds, by_ends, from_ends}
use Rattle.union_area.specs.WindowParts.{AreInLine, IsFirstLine, count_along}

abbrev cell : ℤ → ℤ → Cell
cell j i = record { i = i; j = j }

range-one : (x : ℤ) → range x (x +ℤ pos 1) ≡ x ∷ []
range-one x = let a = or_zero_is (x +ℤ pos 1 -ℤ x) (omega (arith, ints)) in let e : or_zero (x +ℤ pos 1 -ℤ x) ≡ 1 = omega (arith, ints) in ap (from x) e

-- two lists of cells, of which each is as the one in its place, have the same tally
module _ (P : Cell → Type 0) (f g : ℤ → Cell) where
  Tally-moved : (xs : List ℤ) (n : ℕ) → ((x : ℤ) → Contains xs x → P (f x) ↔ P (g x)) → Tally P (map f xs) n → Tally P (map g xs) n
  Tally-moved [] n same none = none
  Tally-moved (x ∷ xs) n same (hit {n = k} h t) = hit ((same x (Contains-head x xs)).0 h) (Tally-moved xs k (λ y i. same y (Contains-tail x xs y i)) t)
  Tally-moved (x ∷ xs) n same (miss h t) = miss (λ p. h ((same x (Contains-head x xs)).1 p)) (Tally-moved xs n (λ y i. same y (Contains-tail x xs y i)) t)

module _ (P : Cell → Type 0) (window : Rect) where
  -- the property is the same at all cells in a line
  abbrev IsAlike : Axis → Type 0
  IsAlike axis = (c d : Cell) → Has window c → Has window d → AreInLine axis c d → P c → P d

  has : (i j : ℤ) → Contains (range window.x0 window.x1) i → Contains (range window.y0 window.y1) j → Has window (cell j i)
  has i j across up =
      let a = window.across.some in let b = window.up.some in
      record { across = Contains-range window.x0 window.x1 (omega (arith, ints)) i across; up = Contains-range window.y0 window.y1 (omega (arith, ints)) j up }

  lowest : (i : ℤ) → Contains (range window.x0 window.x1) i → Has window (cell window.y0 i)
  lowest i across =
      let a = window.across.some in let b = window.up.some in
      record { across = Contains-range window.x0 window.x1 (omega (arith, ints)) i across; up = record { from = omega (arith, ints); before = b } }

  leftmost : (j : ℤ) → Contains (range window.y0 window.y1) j → Has window (cell j window.x0)
  leftmost j up =
      let a = window.across.some in let b = window.up.some in
      record { across = record { from = omega (arith, ints); before = a }; up = Contains-range window.y0 window.y1 (omega (arith, ints)) j up }

  -- each row is as the lowest one
  rows_repeat : IsAlike Y → (n : ℕ) → Tally P (row window window.y0) n → Tally P (cells_of window) (count_along Y window * n)
  rows_repeat alike n t = Tally-times P (row window) (range window.y0 window.y1) n (λ j up.
      Tally-moved P (cell window.y0) (cell j) (range window.x0 window.x1) n
      (λ i across. (alike _ _ (lowest i across) (has i j across up) refl, alike _ _ (has i j across up) (lowest i across) refl)) t)

  -- a row has the property at all of its cells where it has it at the leftmost one, and else at none
  rows_whole : IsAlike X → (ys : List ℤ) (n : ℕ) → ((j : ℤ) → Contains ys j → Contains (range window.y0 window.y1) j) → Tally P (flat_map (λ j. map (cell j) (window.x0 ∷ [])) ys) n
      → Tally P (flat_map (row window) ys) (count_along X window * n)
  rows_whole alike [] n within none = let e : count_along X window * 0 ≡ 0 = omega arith in rw e none
  rows_whole alike (j ∷ ys) n within (hit {n = k} h t) =
      let up = within j (Contains-head j ys) in
      let e : count_along X window * suc k ≡ count_along X window + count_along X window * k = omega arith in
      rw e (Tally-append (row window j) _ (count_along X window) (count_along X window * k)
      (Tally-all P (cell j) (range window.x0 window.x1) (λ i across. alike _ _ (leftmost j up) (has i j across up) refl h))
      (rows_whole alike ys k (λ l at. within l (Contains-tail j ys l at)) t))
  rows_whole alike (j ∷ ys) n within (miss h t) =
      let up = within j (Contains-head j ys) in
      let e : count_along X window * n ≡ 0 + count_along X window * n = omega arith in
      rw e (Tally-append (row window j) _ 0 (count_along X window * n)
      (Tally-never P (cell j) (range window.x0 window.x1) (λ i across p. h (alike _ _ (has i j across up) (leftmost j up) refl p)))
      (rows_whole alike ys n (λ l at. within l (Contains-tail j ys l at)) t))

-- ---- the first line

module _ (window line : Rect) where
  pub first_across : HasEnds line window.x0 window.y0 (window.x0 +ℤ pos 1) window.y1 → IsFirstLine X window line
  first_across s = record {
    cells = λ c. (
      λ h. let e = by_ends s c h in let a = e.0.from in let b = e.0.before in let w = window.across.some in
          (record { across = record { from = a; before = omega (arith, ints) }; up = e.1 }, omega (arith, ints)),
      λ h. let e = h.1 in from_ends s c (record { from = omega (arith, ints); before = omega (arith, ints) }) h.0.up,
    );
  }

  pub first_up : HasEnds line window.x0 window.y0 window.x1 (window.y0 +ℤ pos 1) → IsFirstLine Y window line
  first_up s = record {
    cells = λ c. (
      λ h. let e = by_ends s c h in let a = e.1.from in let b = e.1.before in let w = window.up.some in
          (record { across = e.0; up = record { from = a; before = omega (arith, ints) } }, omega (arith, ints)),
      λ h. let e = h.1 in from_ends s c h.0.across (record { from = omega (arith, ints); before = omega (arith, ints) }),
    );
  }

-- no other rectangle has these cells
same_line : (axis : Axis) (window line other : Rect) → IsFirstLine axis window line → IsFirstLine axis window other → line ≡ other
same_line axis window line other s t = same_cells_same_rect line other (λ c h. (t.cells c).1 ((s.cells c).0 h)) (λ c h. (s.cells c).1 ((t.cells c).0 h))

module _ (window : Rect) where
  abbrev first_column : Rect
  first_column = record {
    x0 = window.x0;
    y0 = window.y0;
    x1 = window.x0 +ℤ pos 1;
    y1 = window.y1;
    across = let a = window.across.some in let b = window.across.most in record { some = omega (arith, ints); least = window.across.least; most = omega (arith, ints) };
    up = window.up;
  }

  abbrev first_row : Rect
  first_row = record {
    x0 = window.x0;
    y0 = window.y0;
    x1 = window.x1;
    y1 = window.y0 +ℤ pos 1;
    across = window.across;
    up = let a = window.up.some in let b = window.up.most in record { some = omega (arith, ints); least = window.up.least; most = omega (arith, ints) };
  }

-- the window's tally is that of its first line as often as the axis has places
pub lines_tally : (P : Cell → Type 0) (axis : Axis) (window line : Rect) (n : ℕ) → IsFirstLine axis window line → ((c d : Cell) → Has window c → Has window d → AreInLine axis c d → P c → P d)
    → Tally P (cells_of line) n → Tally P (cells_of window) (count_along axis window * n)
lines_tally P X window line n first alike t =
    let e = same_line X window line (first_column window) first (first_across window (first_column window) (record { left = refl; bottom = refl; right = refl; top = refl })) in
    let column = subst (λ (r : Rect). Tally P (cells_of r) n) e t in
    rows_whole P window alike (range window.y0 window.y1) n (λ j h. h)
    (subst (λ (xs : List ℤ). Tally P (flat_map (λ j. map (cell j) xs) (range window.y0 window.y1)) n) (range-one window.x0) column)
lines_tally P Y window line n first alike t =
    let e = same_line Y window line (first_row window) first (first_up window (first_row window) (record { left = refl; bottom = refl; right = refl; top = refl })) in
    let rows = subst (λ (r : Rect). Tally P (cells_of r) n) e t in
    let one = subst (λ (ys : List ℤ). Tally P (flat_map (row window) ys) n) (range-one window.y0) rows in
    rows_repeat P window alike n (subst (λ (cs : List Cell). Tally P cs n) (append-nil (row window window.y0)) one)

-- two places at least, where there is more than one
two_along : (axis : Axis) (window : Rect) → (low_along axis window +ℤ pos 1) <ℤ high_along axis window → 2 ≤ count_along axis window
two_along axis window several =
    let low = low_along axis window in let high = high_along axis window in
    let n = or_zero_is (high -ℤ low) (omega (arith, ints)) in
    let e = length-range low high (or_zero (high -ℤ low)) n in
    omega (arith, ints)

-- the lines have as many cells as the window
pub cells_of_lines : (axis : Axis) (window line : Rect) → IsFirstLine axis window line → count_along axis window * length (cells_of line) ≡ length (cells_of window)
cells_of_lines axis window line first =
    let all = lines_tally Always axis window line (length (cells_of line)) first (λ c d h k l p. tt) (all_of line) in
    Tally-unique (cells_of window) (count_along axis window * length (cells_of line)) (length (cells_of window)) all (all_of window)

-- so one of them has fewer, where there is more than one
pub fewer_in_line : (axis : Axis) (window line : Rect) → IsFirstLine axis window line → (low_along axis window +ℤ pos 1) <ℤ high_along axis window → length (cells_of line) < length (cells_of window)
fewer_in_line axis window line first several =
    let e = cells_of_lines axis window line first in
    let some = some_cell line in
    let many = mul-le 2 (length (cells_of line)) (count_along axis window) (length (cells_of line)) (two_along axis window several) (omega arith) in
    omega arith
