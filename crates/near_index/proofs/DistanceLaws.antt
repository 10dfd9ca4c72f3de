-- the distances of cells to rectangles
use Rattle.std.proofs.Common.{ℕ, ◌≤◌, ◌≡◌, refl, max, arith, inl, inr, ℤ, pos, unsigned_abs, ◌-ℤ◌, ◌≤ℤ◌, ◌<ℤ◌, neg_ℤ, List}
use Rattle.lists.proofs.Words.{ints, by_lt_z, cases_lt, All-contains}
use Rattle.geo_core.specs.Intervals.{IsWithin}
use Rattle.geo_core.specs.Plane.{ComesNear, ComesWithin, IsIn, IsInLayout, IsInterval}
use Rattle.geo_core.specs.declared.plane.Cell.{Cell}
use Rattle.geo_core.specs.declared.plane.Labelled.{Labelled}
use Rattle.geo_core.specs.declared.plane.Rect.{Rect}
use Rattle.near_index.specs.Nearest.{IsDistance, IsLayoutCell}
use Rattle.near_index.specs.inside.Gaps.{IsGap}
use Rattle.near_index.specs.inside.Hulls.{IsHullOf, IsRound}
use Rattle.near_index.specs.inside.TwoLeast.{AreBeyond}

-- ---- along one axis

module _ (low high place : ℤ) (gap : ℕ) (some : low <ℤ high) where
  pub gap_before : place <ℤ low → pos gap ≡ low -ℤ place → IsGap low high place gap
  gap_before before is = record {
    reached = (low, record { from = omega (arith, ints); before = some }, (omega (arith, ints), omega (arith, ints)));
    least = λ less small near. let a = near.1.from in let b = near.2.1 in absurd (omega (arith, ints));
  }

  pub gap_behind : high ≤ℤ place → pos gap ≡ place -ℤ (high -ℤ pos 1) → IsGap low high place gap
  gap_behind behind is = record {
    reached = (high -ℤ pos 1, record { from = omega (arith, ints); before = omega (arith, ints) }, (omega (arith, ints), omega (arith, ints)));
    least = λ less small near. let a = near.1.before in let b = near.2.0 in absurd (omega (arith, ints));
  }

pub gap_within : (low high place : ℤ) → low ≤ℤ place → place <ℤ high → IsGap low high place 0
gap_within low high place from before = record {
  reached = (place, record { from = from; before = before }, (omega (arith, ints), omega (arith, ints)));
  least = λ less small near. absurd (omega arith);
}

some_gap : (low high place : ℤ) → low <ℤ high → (gap : ℕ) × IsGap low high place gap
some_gap low high place some = by_lt_z place low
    (λ before. (unsigned_abs (low -ℤ place), gap_before low high place (unsigned_abs (low -ℤ place)) some before (omega (arith, ints))))
    (λ from. by_lt_z place high
    (λ before. (0, gap_within low high place from before))
    (λ behind. (unsigned_abs (place -ℤ (high -ℤ pos 1)), gap_behind low high place (unsigned_abs (place -ℤ (high -ℤ pos 1))) some behind (omega (arith, ints)))))

-- ---- in the plane

wider : (a b : ℤ) (by more : ℕ) → by ≤ more → IsWithin a b (pos by) → IsWithin a b (pos more)
wider a b by more small h = let p = h.0 in let q = h.1 in (omega (arith, ints), omega (arith, ints))

pub distance_of_gaps : (cell : Cell) (rect : Rect) (across up distance : ℕ) → IsGap rect.x0 rect.x1 cell.i across → IsGap rect.y0 rect.y1 cell.j up → distance ≡ max across up → IsDistance cell rect distance
distance_of_gaps cell rect across up distance columns rows is = record {
  reached =
      let c : Cell = record { i = columns.reached.0; j = rows.reached.0 } in (
        c,
        record { across = columns.reached.1; up = rows.reached.1 },
        (
          wider cell.i c.i across distance (omega (arith, is)) columns.reached.2,
          wider cell.j c.j up distance (omega (arith, is)) rows.reached.2,
        ),
      );
  least = λ less small near. elim (cases_lt less across) [
    | inl l ↦ columns.least less l (near.0.i, near.1.across, near.2.0)
    | inr k ↦ rows.least less (omega (arith, is, small, k)) (near.0.j, near.1.up, near.2.1)
  ];
}

pub some_distance : (cell : Cell) (rect : Rect) → (distance : ℕ) × IsDistance cell rect distance
some_distance cell rect =
    let columns = some_gap rect.x0 rect.x1 cell.i rect.across.some in
    let rows = some_gap rect.y0 rect.y1 cell.j rect.up.some in
    (max columns.0 rows.0, distance_of_gaps cell rect columns.0 rows.0 (max columns.0 rows.0) columns.1 rows.1 refl)

-- no cell of the rectangle is nearer
pub no_less : (cell : Cell) (rect : Rect) (distance by : ℕ) → IsDistance cell rect distance → ComesNear rect (pos by) cell → distance ≤ by
no_less cell rect distance by is near = elim (cases_lt by distance) [ inl l ↦ absurd (is.least by l near) | inr k ↦ k ]

pub same_distance : (cell : Cell) (rect : Rect) (one other : ℕ) → IsDistance cell rect one → IsDistance cell rect other → one ≡ other
same_distance cell rect one other p q =
    let k = no_less cell rect one other p q.reached in
    let m = no_less cell rect other one q p.reached in
    omega arith

-- what lies in a hull is no nearer than the hull
pub beyond_hull : (pieces : List Labelled) (cell : Cell) (hull : Rect) (distance : ℕ) → IsHullOf (λ (piece : Labelled). piece.rect) hull pieces → IsDistance cell hull distance → AreBeyond pieces cell distance
beyond_hull pieces cell hull distance round is = record {
  each = λ piece further among away.
      let inside = All-contains (λ (p : Labelled). IsRound hull p.rect) pieces piece round among in
      no_less cell hull distance further is (away.reached.0, inside away.reached.0 away.reached.1, away.reached.2);
}

-- ---- how far a cell of a layout may be

far_along : (low high place : ℤ) → IsInterval (pos 1000000000) low high → IsIn (neg_ℤ (pos 1000000000)) (pos 1000000000) place → ComesWithin low high (pos 1999999999) place
far_along low high place ends is =
    let some = ends.some in let least = ends.least in let most = ends.most in let from = is.from in let before = is.before in
    (low, record { from = omega (arith, ints); before = some }, (omega (arith, ints), omega (arith, ints)))

pub greatest_distance : (cell : Cell) (rect : Rect) (distance : ℕ) → IsLayoutCell cell → IsInLayout rect → IsDistance cell rect distance → distance ≤ 1999999999
greatest_distance cell rect distance in_layout inside is =
    let x = far_along rect.x0 rect.x1 cell.i inside.across in_layout.across in
    let y = far_along rect.y0 rect.y1 cell.j inside.up in_layout.up in
    no_less cell rect distance 1999999999 is (record { i = x.0; j = y.0 }, record { across = x.1; up = y.1 }, (x.2, y.2))
