-- tallies of deep cells, row by row
use Rattle.std.proofs.Common.{ℕ, zero, suc, ◌+◌, ◌-◌, ◌<◌, ◌≤◌, ◌≡◌, refl, sym, ap, subst, ◌∙◌, arith, inl, inr, List, length, map, false, cond, nat_le, ℤ, pos, ◌≤ℤ◌, ◌<ℤ◌, get_or, All, Contains}
use Rattle.lists.proofs.Words.{cases_Bool, nat_tests, map-append, ints, Contains-get_or}
use Rattle.geo_core.specs.Plane.{Has, IsIn}
use Rattle.geo_core.specs.declared.plane.Cell.{Cell}
use Rattle.geo_core.specs.declared.plane.Rect.{Rect}
use Rattle.fault_model.specs.FaultNames.{Tally, range, row, cells_of}
use Rattle.fault_model.proofs.RangeLaws.{Contains-range, length-range, Tally-all, Tally-never, Tally-start, Tally-join}
use Rattle.fault_model.proofs.TallyLaws.{Tally-none}
use Rattle.fault_model.proofs.CellLaws.{has_from_listed}
use Rattle.cover_tree.specs.Columns.{place_at, width_of, deep_width}
use Rattle.cover_tree.proofs.laws.ColumnLaws.{place_at-le, width_is}
use Rattle.depth_sweep.specs.RectSides.{IsSideOf}
use Rattle.depth_sweep.specs.inside.Bars.{HasNoPart}
use Rattle.skyline_runs.specs.Depths.{has_cell, depth_of}
use Rattle.depth_sweep.specs.inside.DeepCells.{IsDeep}
use Rattle.depth_sweep.specs.inside.SweepPlaces.{ArePlaces, IsInColumn}
use Rattle.skyline_runs.proofs.laws.DepthLaws.{has_from}
use Rattle.depth_sweep.proofs.PlaceLaws.{moved_low, moved_high, moved_behind, moved_before, first_le, le_last, place_is}
use Rattle.depth_sweep.proofs.Sums.{sum_by-none}

-- a cell that no rectangle has is not deep
not_deep : (rects : List Rect) (least : ℕ) (c : Cell) → 1 ≤ least → All (λ rect. has_cell c rect ≡ false) rects → IsDeep rects least c → ⊥
not_deep rects least c some none d =
    let deep = d.deep in
    let zero_deep = sum_by-none (λ (rect : Rect). cond (has_cell c rect) 1 0) rects (λ k e s. ap (λ t. cond t 1 0) (none k e s)) in
    absurd (omega (arith, deep, zero_deep))

-- where no rectangle has a cell in the window, none there is deep
pub none_deep : (window : Rect) (rects : List Rect) (least : ℕ) → 1 ≤ least → All (HasNoPart window) rects → Tally (IsDeep rects least) (cells_of window) 0
none_deep window rects least some none =
    Tally-none (cells_of window) (λ c listed. not_deep rects least c some (λ k d s. none k d s c (has_from_listed window c listed)))

abbrev cell_at : ℤ → ℤ → Cell
cell_at j i = record { i = i; j = j }

module _ (window : Rect) (rects : List Rect) (places : List ℤ) (are : ArePlaces window rects places) where
  -- the places lie in the window
  within_low : (k : ℕ) → k < length places → window.x0 ≤ℤ place_at places k
  within_low k small =
      let m = are.only (get_or places k (pos 0)) (Contains-get_or places k (pos 0) small) in
      let low = moved_low window.x0 window.x1 m.side (let s = window.across.some in omega (arith, ints)) in
      let e = m.is in let at = place_is places k (pos 0) small in
      omega (arith, ints)

  within_high : (k : ℕ) → k < length places → place_at places k ≤ℤ window.x1
  within_high k small =
      let m = are.only (get_or places k (pos 0)) (Contains-get_or places k (pos 0) small) in
      let high = moved_high window.x0 window.x1 m.side (let s = window.across.some in omega (arith, ints)) in
      let e = m.is in let at = place_is places k (pos 0) small in
      omega (arith, ints)

  -- a rectangle has cells of the window from the first place to before the last alone
  side_of : (k : ℕ) (d : Rect) → k < length rects → IsSideOf rects (get_or rects k d).x0 × IsSideOf rects (get_or rects k d).x1
  side_of k d s = let among = Contains-get_or rects k d s in (
    record { rect = get_or rects k d; among = among; side = inl refl },
    record { rect = get_or rects k d; among = among; side = inr refl },
  )

  before_first : (c : Cell) → IsIn window.x0 window.x1 c.i → c.i <ℤ place_at places 0 → All (λ rect. has_cell c rect ≡ false) rects
  before_first c w less k d s = elim (cases_Bool (has_cell c (get_or rects k d))) [
    | inl t ↦
        let h = has_from c (get_or rects k d) t in
        let first = first_le places are.rising _ (are.all (get_or rects k d).x0 (side_of k d s).0) in
        let behind = moved_behind window.x0 window.x1 (get_or rects k d).x0 c.i w h.across.from in
        absurd (omega (arith, ints))
    | inr f ↦ f
  ]

  behind_last : (c : Cell) → IsIn window.x0 window.x1 c.i → place_at places (length places - 1) ≤ℤ c.i → All (λ rect. has_cell c rect ≡ false) rects
  behind_last c w more k d s = elim (cases_Bool (has_cell c (get_or rects k d))) [
    | inl t ↦
        let h = has_from c (get_or rects k d) t in
        let last = le_last places are.rising _ (are.all (get_or rects k d).x1 (side_of k d s).1) in
        let before = moved_before window.x0 window.x1 (get_or rects k d).x1 c.i w h.across.before in
        absurd (omega (arith, ints))
    | inr f ↦ f
  ]

  -- ---- a row, whose cells are as deep as the columns in which they lie
  module _ (least : ℕ) (some : 1 ≤ least) (depth : ℕ → ℕ) (j : ℤ) (up : IsIn window.y0 window.y1 j)
      (same : (column : ℕ) (c : Cell) → IsInColumn places column c.i → Has window c → c.j ≡ j → depth_of rects c ≡ depth column) where
    abbrev P : Cell → Type 0
    P = IsDeep rects least

    -- the depth of a cell of the row in a column
    in_column : (column : ℕ) → suc column < length places → (x : ℤ) → IsIn (place_at places column) (place_at places (suc column)) x → depth_of rects (cell_at j x) ≡ depth column
    in_column column small x h =
        let low = within_low column (omega arith) in let high = within_high (suc column) small in
        let a = h.from in let b = h.before in
        same column (cell_at j x) (record { among = small; in_it = h }) (record { across = record { from = omega (arith, ints); before = omega (arith, ints) }; up = up }) refl

    one_column : (column : ℕ) → suc column < length places
        → Tally P (map (cell_at j) (range (place_at places column) (place_at places (suc column)))) (cond (nat_le least (depth column)) (width_of places column) 0)
    one_column column small =
        let order = place_at-le places are.rising column (suc column) (omega arith) in
        let within : (x : ℤ) → Contains (range (place_at places column) (place_at places (suc column))) x → depth_of rects (cell_at j x) ≡ depth column
        = λ x h. in_column column small x (Contains-range (place_at places column) (place_at places (suc column)) order x h) in
        let xs = range (place_at places column) (place_at places (suc column)) in
        let cells = map (cell_at j) xs in
        elim (cases_Bool (nat_le least (depth column))) [
          | inl t ↦
              let deep : least ≤ depth column = grind (arith, nat_tests) in
              let long = length-range (place_at places column) (place_at places (suc column)) (width_of places column) (width_is places are.rising column) in
              subst (Tally P cells) (long ∙ sym (ap (λ b. cond b (width_of places column) 0) t))
              (Tally-all P (cell_at j) xs (λ x h. let e = within x h in record { deep = omega arith }))
          | inr f ↦
              let shallow : depth column < least = grind (arith, nat_tests) in
              subst (Tally P cells) (sym (ap (λ b. cond b (width_of places column) 0) f))
              (Tally-never P (cell_at j) xs (λ x h d. let e = within x h in let k = d.deep in absurd (omega arith)))
        ]

    -- so many columns, from one on
    columns : (column count : ℕ) → column + count < length places
        → Tally P (map (cell_at j) (range (place_at places column) (place_at places (column + count)))) (deep_width places depth least column count)
    columns column zero small =
        let e : place_at places (column + zero) ≡ place_at places column = ap (place_at places) (omega arith) in
        Tally-start P (map (cell_at j)) refl (place_at places column) (place_at places (column + zero)) e
    columns column (suc count) small =
        let e : place_at places (suc column + count) ≡ place_at places (column + suc count) = ap (place_at places) (omega arith) in
        let first = one_column column (omega arith) in
        let rest = columns (suc column) count (omega arith) in
        Tally-join P (map (cell_at j)) (map-append (cell_at j)) (place_at places column) (place_at places (suc column)) (place_at places (column + suc count)) _ _
        (place_at-le places are.rising column (suc column) (omega arith)) (place_at-le places are.rising (suc column) (column + suc count) (omega arith))
        first (subst (λ z. Tally P (map (cell_at j) (range (place_at places (suc column)) z)) (deep_width places depth least (suc column) count)) e rest)

    never_before : 1 ≤ length places → Tally P (map (cell_at j) (range window.x0 (place_at places 0))) 0
    never_before long =
        let low = within_low 0 (omega arith) in let high = within_high 0 (omega arith) in
        Tally-never P (cell_at j) (range window.x0 (place_at places 0)) (λ x h.
        let at = Contains-range window.x0 (place_at places 0) low x h in let b = at.before in
        not_deep rects least (cell_at j x) some (before_first (cell_at j x) (record { from = at.from; before = omega (arith, ints) }) b))

    never_behind : 1 ≤ length places → Tally P (map (cell_at j) (range (place_at places (length places - 1)) window.x1)) 0
    never_behind long =
        let low = within_low (length places - 1) (omega arith) in let high = within_high (length places - 1) (omega arith) in
        Tally-never P (cell_at j) (range (place_at places (length places - 1)) window.x1) (λ x h.
        let at = Contains-range (place_at places (length places - 1)) window.x1 high x h in let a = at.from in
        not_deep rects least (cell_at j x) some (behind_last (cell_at j x) (record { from = omega (arith, ints); before = at.before }) a))

    -- the whole row
    pub row_tally : 1 ≤ length places → Tally P (row window j) (deep_width places depth least 0 (length places - 1))
    row_tally long =
        let last = length places - 1 in
        let low = within_low 0 (omega arith) in let high = within_high last (omega arith) in
        let middle : Tally P (map (cell_at j) (range (place_at places 0) (place_at places last))) (deep_width places depth least 0 last)
        = subst (λ n. Tally P (map (cell_at j) (range (place_at places 0) (place_at places n))) (deep_width places depth least 0 last)) (omega arith) (columns 0 last (omega arith)) in
        let order = place_at-le places are.rising 0 last (omega arith) in
        let begun = Tally-join P (map (cell_at j)) (map-append (cell_at j)) window.x0 (place_at places 0) (place_at places last) _ _ low order (never_before long) middle in
        let all = Tally-join P (map (cell_at j)) (map-append (cell_at j)) window.x0 (place_at places last) window.x1 _ _ (omega (arith, ints)) high begun (never_behind long) in
        subst (Tally P (row window j)) (omega arith) all
