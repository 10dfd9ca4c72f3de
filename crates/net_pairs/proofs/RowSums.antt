-- sums over the cells of a window, row by row
use Rattle.std.proofs.Common.{ℕ, ℤ, zero, suc, pos, List, [], ◌∷◌, ◌+◌, ◌*◌, ◌+ℤ◌, ◌-ℤ◌, ◌≡◌, ◌∙◌, refl, sym, ap, arith, map, Contains, sum_by, zero-add}
use Rattle.lists.proofs.Words.{Contains-append_left, Contains-append_right, flat_map, ints, sum_by-append, sum_by-cons}
use Rattle.geo_core.specs.declared.plane.Cell.{Cell}
use Rattle.geo_core.specs.declared.plane.Rect.{Rect}
use Rattle.geo_core.specs.Plane.{Has}
use Rattle.fault_model.specs.FaultNames.{cells_of, from, or_zero, range, row}
use Rattle.fault_model.proofs.CellLaws.{has_from_listed}
use Rattle.fault_model.proofs.RangeLaws.{or_zero_is}
use Rattle.net_pairs.specs.inside.RowChanges.{below}
use Rattle.net_pairs.specs.inside.Dense.{rows_up}
use Rattle.net_pairs.specs.inside.SameRests.{HaveOneRest}
use Rattle.net_pairs.proofs.DoubleSums.{sums_added, sums_agree}
use Rattle.net_pairs.proofs.RestLaws.{rest_added, rest_multiplied, rest_equal, rest_refl, rest_sums, rest_trans}

-- ---- one row

abbrev cell : ℤ → ℤ → Cell
cell j i = record { i = i; j = j }

-- the cells below those of a row are the row below
row_below : (f : Cell → ℕ) (j k : ℤ) (is : List ℤ) → k ≡ j +ℤ pos 1 → sum_by (λ c. f (below c)) (map (cell k) is) ≡ sum_by f (map (cell j) is)
row_below f j k [] e = refl
row_below f j k (i ∷ is) e =
    let a = sum_by-cons (λ c. f (below c)) (cell k i) (map (cell k) is) in
    let b = sum_by-cons f (cell j i) (map (cell j) is) in
    let l : k -ℤ pos 1 ≡ j = omega (arith, ints) in
    let here : f (below (cell k i)) ≡ f (cell j i) = ap (λ (y : ℤ). f (cell y i)) l in
    let rest = row_below f j k is e in
    omega (arith, a, b, here, rest)

-- a number that is one for all cells of a row
row_times : (n : ℕ) (f g : Cell → ℕ) (j : ℤ) (is : List ℤ) → ((i : ℤ) → f (cell j i) ≡ n) → sum_by (λ c. f c * g c) (map (cell j) is) ≡ n * sum_by g (map (cell j) is)
row_times n f g j [] e = omega arith
row_times n f g j (i ∷ is) e =
    let a = sum_by-cons (λ c. f c * g c) (cell j i) (map (cell j) is) in
    let b = sum_by-cons g (cell j i) (map (cell j) is) in
    let here : f (cell j i) * g (cell j i) ≡ n * g (cell j i) = ap (λ (m : ℕ). m * g (cell j i)) (e i) in
    let rest = row_times n f g j is e in
    let whole : n * sum_by g (map (cell j) (i ∷ is)) ≡ n * g (cell j i) + n * sum_by g (map (cell j) is) = rw b (omega arith) in
    omega (arith, a, here, rest, whole)

row_zero : (f : Cell → ℕ) (j : ℤ) (is : List ℤ) → ((i : ℤ) → f (cell j i) ≡ 0) → sum_by f (map (cell j) is) ≡ 0
row_zero f j [] e = refl
row_zero f j (i ∷ is) e =
    let a = sum_by-cons f (cell j i) (map (cell j) is) in
    let here = e i in
    let rest = row_zero f j is e in
    omega (arith, a, here, rest)

step_rest : (n a f p b d : ℕ) → HaveOneRest f (n * a + p) → HaveOneRest a (b + d) → HaveOneRest (a + f) (suc n * b + (suc n * d + p))
step_rest n a f p b d h k =
    rest_trans (rest_added (rest_refl a) h)
    (rest_trans (rest_equal (omega arith)) (rest_trans (rest_added (rest_multiplied (rest_refl (suc n)) k) (rest_refl p)) (rest_equal (omega arith))))

-- ---- rows up to the top of a window

rows : Rect → ℤ → ℕ → List Cell
rows window j n = flat_map (row window) (from j n)

module _ (window : Rect) (f : Cell → ℕ) where
  first_row : (j : ℤ) (n : ℕ) → sum_by f (rows window j (suc n)) ≡ sum_by f (row window j) + sum_by f (rows window (j +ℤ pos 1) n)
  unfolding rows
  first_row j n = sum_by-append f (row window j) (rows window (j +ℤ pos 1) n)

module _ (window : Rect) where
  in_first : (j : ℤ) (n : ℕ) (c : Cell) → Contains (row window j) c → Contains (rows window j (suc n)) c
  unfolding rows
  in_first j n c h = Contains-append_left (row window j) (rows window (j +ℤ pos 1) n) c h

  in_later : (j : ℤ) (n : ℕ) (c : Cell) → Contains (rows window (j +ℤ pos 1) n) c → Contains (rows window j (suc n)) c
  unfolding rows
  in_later j n c h = Contains-append_right (row window j) (rows window (j +ℤ pos 1) n) c h

  no_rows : (f : Cell → ℕ) (j : ℤ) → sum_by f (rows window j 0) ≡ 0
  unfolding rows
  no_rows f j = refl

  -- so many rows reach up from a row
  up_from : (j : ℤ) (n : ℕ) → j +ℤ pos n ≡ window.y1 → or_zero (window.y1 -ℤ j) ≡ n
  up_from j n e = let a = or_zero_is (window.y1 -ℤ j) (omega (arith, ints)) in omega (arith, ints)

  -- Where a function is in each cell what it is in the cell below and a change, its sum is that of the changes, each as often as there
  -- are rows from its own to the top, and of the row below all, as often as there are rows.
  by_parts_from : (f d : Cell → ℕ) (j : ℤ) (n : ℕ) → j +ℤ pos n ≡ window.y1 → ((c : Cell) → Contains (rows window j n) c → HaveOneRest (f c) (f (below c) + d c))
      → HaveOneRest (sum_by f (rows window j n)) (n * sum_by (λ c. f (below c)) (row window j) + sum_by (λ c. rows_up window c * d c) (rows window j n))
  by_parts_from f d j zero top each = let a = no_rows f j in let b = no_rows (λ c. rows_up window c * d c) j in rest_equal (omega (arith, a, b))
  by_parts_from f d j (suc n) top each =
      let next = by_parts_from f d (j +ℤ pos 1) n (omega (arith, ints)) (λ c h. each c (in_later j n c h)) in
      let here = rest_sums f (λ c. f (below c) + d c) (row window j) (λ c h. each c (in_first j n c h)) in
      let low = row_below f j (j +ℤ pos 1) (range window.x0 window.x1) refl in
      let times = row_times (suc n) (rows_up window) d j (range window.x0 window.x1) (λ i. up_from j (suc n) top) in
      let a = first_row window f j n in
      let b = first_row window (λ c. rows_up window c * d c) j n in
      let s = sums_added (λ c. f (below c)) d (row window j) in
      let rest = sum_by (λ c. rows_up window c * d c) (rows window (j +ℤ pos 1) n) in
      let step = step_rest n (sum_by f (row window j)) (sum_by f (rows window (j +ℤ pos 1) n)) rest (sum_by (λ c. f (below c)) (row window j)) (sum_by d (row window j))
      (rest_trans next (rest_equal (ap (λ (m : ℕ). n * m + rest) low))) (rest_trans here (rest_equal s)) in
      rest_trans (rest_equal a) (rest_trans step (rest_equal (ap (λ (m : ℕ). suc n * sum_by (λ c. f (below c)) (row window j) + m) (ap (λ (m : ℕ). m + rest) (sym times) ∙ sym b))))

  -- Where a function is in each cell what another is in the cell below, and that one is 0 in the top row, the sums differ by the row
  -- below all.
  moved_from : (f g : Cell → ℕ) (j : ℤ) (n : ℕ) → j +ℤ pos n ≡ window.y1 → ((c : Cell) → Contains (rows window j n) c → g c ≡ f (below c)) → ((c : Cell) → c.j +ℤ pos 1 ≡ window.y1 → f c ≡ 0)
      → sum_by g (rows window j n) ≡ sum_by (λ c. f (below c)) (row window j) + sum_by f (rows window j n)
  moved_from f g j zero top each none =
      let z = row_zero (λ c. f (below c)) j (range window.x0 window.x1) (λ i. none (below (cell j i)) (omega (arith, ints))) in
      let a = no_rows f j in let b = no_rows g j in omega (arith, a, b, z)
  moved_from f g j (suc n) top each none =
      let next = moved_from f g (j +ℤ pos 1) n (omega (arith, ints)) (λ c h. each c (in_later j n c h)) none in
      let here = sums_agree g (λ c. f (below c)) (row window j) (λ c h. each c (in_first j n c h)) in
      let low = row_below f j (j +ℤ pos 1) (range window.x0 window.x1) refl in
      let a = first_row window f j n in
      let b = first_row window g j n in
      omega (arith, next, here, low, a, b)

  -- ---- all rows of the window

  abbrev height : ℕ
  height = or_zero (window.y1 -ℤ window.y0)

  up_to_top : window.y0 +ℤ pos height ≡ window.y1
  up_to_top = let some = window.up.some in let a = or_zero_is (window.y1 -ℤ window.y0) (omega (arith, ints)) in omega (arith, ints)

  below_all : (f : Cell → ℕ) → ((c : Cell) → c.j ≡ window.y0 → f (below c) ≡ 0) → sum_by (λ c. f (below c)) (row window window.y0) ≡ 0
  below_all f none = row_zero (λ c. f (below c)) window.y0 (range window.x0 window.x1) (λ i. none (cell window.y0 i) refl)

  -- Where a function is in each cell of the window what it is in the cell below and a change, and is 0 below the window, its sum is that
  -- of the changes, each as often as there are rows from its own to the top.
  pub sum_by_parts : (f d : Cell → ℕ) → ((c : Cell) → Has window c → HaveOneRest (f c) (f (below c) + d c)) → ((c : Cell) → c.j ≡ window.y0 → f (below c) ≡ 0)
      → HaveOneRest (sum_by f (cells_of window)) (sum_by (λ c. rows_up window c * d c) (cells_of window))
  unfolding rows
  sum_by_parts f d each none =
      let parts = by_parts_from f d window.y0 height up_to_top (λ c h. each c (has_from_listed window c h)) in
      let z = below_all f none in
      rest_trans parts (rest_equal (without height _ _ z))
    where
      without : (n k m : ℕ) → k ≡ 0 → n * k + m ≡ m
      without n k m e = rw e (omega arith)

  -- Where a function is in each cell of the window what another is in the cell below, and that one is 0 in the top row and below the
  -- window, both have one sum.
  pub sum_moved : (f g : Cell → ℕ) → ((c : Cell) → Has window c → g c ≡ f (below c)) → ((c : Cell) → c.j +ℤ pos 1 ≡ window.y1 → f c ≡ 0) → ((c : Cell) → c.j ≡ window.y0 → f (below c) ≡ 0)
      → sum_by g (cells_of window) ≡ sum_by f (cells_of window)
  unfolding rows
  sum_moved f g each top none =
      let moved = moved_from f g window.y0 height up_to_top (λ c h. each c (has_from_listed window c h)) top in
      let z = below_all f none in
      moved ∙ ap (λ (m : ℕ). m + sum_by f (cells_of window)) z ∙ zero-add (sum_by f (cells_of window))
