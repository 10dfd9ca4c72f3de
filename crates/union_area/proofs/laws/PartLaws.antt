-- tallies of parts add up, no tally of a rectangle is large, and a part has fewer cells than the whole
use Rattle.std.proofs.Common.{ℕ, ◌+◌, ◌*◌, ◌^◌, ◌<◌, ◌≤◌, ◌≡◌, subst, List, [], ◌∷◌, ◌++◌, length, arith, inl, inr, ◌⊎◌, ℤ, ◌-ℤ◌, Contains}
use Rattle.lists.proofs.Words.{ints, length-map, mul-le}
use Rattle.geo_core.specs.Plane.{Has, IsInterval}
use Rattle.geo_core.specs.declared.bounds.TheConstants.{FARTHEST_GROWN}
use Rattle.geo_core.specs.declared.plane.Cell.{Cell}
use Rattle.geo_core.specs.declared.plane.Rect.{Rect}
use Rattle.geo_core.proofs.IntervalLaws.{in_or_not}
use Rattle.fault_model.specs.FaultNames.{Tally, none, hit, or_zero, range, row, cells_of}
use Rattle.fault_model.proofs.CellLaws.{Contains-cells_of, once, never}
use Rattle.fault_model.proofs.OrderLaws.{Tally-as_often}
use Rattle.fault_model.proofs.RangeLaws.{or_zero_is, length-range, length-times}
use Rattle.fault_model.proofs.TallyLaws.{Tally-append, Tally-counts, Tally-le-length, Tally-unique}
use Rattle.lists.proofs.Containing.{Contains-head, Contains-tail}
use Rattle.union_area.specs.WindowParts.{AreParts}

-- ---- parts

-- a cell lies in the rectangle, or not
has_or_not : (rect : Rect) (c : Cell) → Has rect c ⊎ (Has rect c → ⊥)
has_or_not rect c = elim (in_or_not rect.x0 rect.x1 c.i) [
  | inl across ↦ elim (in_or_not rect.y0 rect.y1 c.j) [ inl up ↦ inl (record { across = across; up = up }) | inr n ↦ inr (λ h. n h.up) ]
  | inr n ↦ inr (λ h. n h.across)
]

module _ (window first second : Rect) (parts : AreParts window first second) where
  -- the cells of the parts, one after the other, have each cell as often as the window's
  as_often : (c : Cell) (k : ℕ) → Tally (λ d. d ≡ c) (cells_of first ++ cells_of second) k → Tally (λ d. d ≡ c) (cells_of window) k
  as_often c k t = elim (has_or_not first c) [
    | inl h ↦ same 1 0 (once first c h) (never second c (parts.apart c h)) (once window c ((parts.cells c).1 (inl h)))
    | inr n ↦ elim (has_or_not second c) [
      | inl h ↦ same 0 1 (never first c n) (once second c h) (once window c ((parts.cells c).1 (inr h)))
      | inr m ↦ same 0 0 (never first c n) (never second c m) (never window c (λ h. elim ((parts.cells c).0 h) [ inl a ↦ n a | inr b ↦ m b ]))
    ]
  ] where
    same : (m n : ℕ) → Tally (λ d. d ≡ c) (cells_of first) m → Tally (λ d. d ≡ c) (cells_of second) n → Tally (λ d. d ≡ c) (cells_of window) (m + n)
        → Tally (λ d. d ≡ c) (cells_of window) k
    same m n a b whole = subst (Tally (λ d. d ≡ c) (cells_of window)) (Tally-unique (cells_of first ++ cells_of second) (m + n) k (Tally-append (cells_of first) (cells_of second) m n a b) t) whole

  -- the tallies of the two parts of a window add up
  pub parts_tally : {P : Cell → Type 0} (m n : ℕ) → Tally P (cells_of first) m → Tally P (cells_of second) n → Tally P (cells_of window) (m + n)
  parts_tally m n s t = Tally-as_often (cells_of first ++ cells_of second) (cells_of window) (m + n) as_often (Tally-append (cells_of first) (cells_of second) m n s t)

-- ---- how many cells

-- the tally of a property that holds of each cell of the list
Tally-each : {P : Cell → Type 0} (cells : List Cell) → ((c : Cell) → Contains cells c → P c) → Tally P cells (length cells)
Tally-each [] each = none
Tally-each (c ∷ cs) each = hit (each c (Contains-head c cs)) (Tally-each cs (λ d h. each d (Contains-tail c cs d h)))

-- of one that holds of each cell of a rectangle
pub whole_tally : {P : Cell → Type 0} (rect : Rect) → ((c : Cell) → Has rect c → P c) → Tally P (cells_of rect) (length (cells_of rect))
whole_tally rect whole = Tally-each (cells_of rect) (λ c listed. whole c ((Contains-cells_of rect c).0 listed))

abbrev pub Always : Cell → Type 0
Always c = Unit {0}

pub all_of : (rect : Rect) → Tally Always (cells_of rect) (length (cells_of rect))
all_of rect = whole_tally {P = Always} rect (λ c h. tt)

-- a rectangle has at least one cell
pub some_cell : (rect : Rect) → 1 ≤ length (cells_of rect)
some_cell rect =
    let x = rect.across.some in let y = rect.up.some in
    let corner : Cell = record { i = rect.x0; j = rect.y0 } in
    let has : Has rect corner = record { across = record { from = omega (arith, ints); before = x }; up = record { from = omega (arith, ints); before = y } } in
    Tally-counts {P = Always} (cells_of rect) (length (cells_of rect)) corner ((Contains-cells_of rect corner).1 has) tt (all_of rect)

-- the two parts have as many cells as the window
pub cells_of_parts : (window first second : Rect) → AreParts window first second → length (cells_of first) + length (cells_of second) ≡ length (cells_of window)
cells_of_parts window first second parts =
    let both = parts_tally window first second parts {P = Always} (length (cells_of first)) (length (cells_of second)) (all_of first) (all_of second) in
    Tally-unique (cells_of window) (length (cells_of first) + length (cells_of second)) (length (cells_of window)) both (all_of window)

-- so each of them has fewer
pub fewer_cells : (window first second : Rect) → AreParts window first second → (length (cells_of first) < length (cells_of window)) × (length (cells_of second) < length (cells_of window))
fewer_cells window first second parts =
    let e = cells_of_parts window first second parts in
    let a = some_cell first in let b = some_cell second in
    (omega (arith, e), omega (arith, e))

-- ---- a rectangle has at most 2,002,000,000 columns and as many rows

-- how many numbers there are from one to before another
few_in_range : (low high : ℤ) → IsInterval FARTHEST_GROWN low high → length (range low high) ≤ 2002000000
few_in_range low high within =
    let a = within.some in let b = within.least in let c = within.most in
    let n = or_zero_is (high -ℤ low) (omega (arith, ints)) in
    let e = length-range low high (or_zero (high -ℤ low)) n in
    omega (arith, ints)

-- a rectangle's cells are as many as its rows times its columns
pub length-cells_of : (rect : Rect) → length (cells_of rect) ≡ length (range rect.y0 rect.y1) * length (range rect.x0 rect.x1)
length-cells_of rect = length-times (row rect) (range rect.y0 rect.y1) (length (range rect.x0 rect.x1)) (λ j. length-map (range rect.x0 rect.x1) (λ i. record { i = i; j = j }))

-- so its cells are few, and no tally of them is more
pub few_cells : (rect : Rect) → length (cells_of rect) < 2 ^ 63
few_cells rect =
    let e = length-cells_of rect in
    let d = mul-le (length (range rect.y0 rect.y1)) (length (range rect.x0 rect.x1)) 2002000000 2002000000 (few_in_range rect.y0 rect.y1 rect.up) (few_in_range rect.x0 rect.x1 rect.across) in
    omega arith

pub few_tallied : {P : Cell → Type 0} (rect : Rect) (n : ℕ) → Tally P (cells_of rect) n → n < 2 ^ 63
few_tallied rect n t = let a = few_cells rect in let b = Tally-le-length (cells_of rect) n t in omega arith
