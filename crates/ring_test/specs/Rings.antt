-- the ring of half squares round a box of half squares, and its arcs, by numbers
use Rattle.std.specs.Prelude.{ℤ, pos, ℕ, ◌+ℤ◌, ◌-ℤ◌, ◌<ℤ◌, ◌⊎◌, ◌↔◌}
use Rattle.std.specs.Int.{int_max, int_min}
use Rattle.geo_core.specs.Intervals.{IsIn, IsWithin}
use Rattle.geo_core.specs.declared.plane.Cell.{Cell}
use Rattle.geo_core.specs.declared.plane.Half.{Half}
use Rattle.half_boxes.specs.declared.boxes.HalfBox.{HalfBox}

-- a box of half squares, however far out: its columns go from `left` to before `right`, its rows from `bottom` to before `top`
pub record Hole : Type 0 where
  pub left : ℤ
  pub right : ℤ
  pub bottom : ℤ
  pub top : ℤ

-- it has at least one half square
pub record HasSome (hole : Hole) : Type 0 where
  pub across : hole.left <ℤ hole.right
  pub up : hole.bottom <ℤ hole.top

-- the half square lies in it
abbrev pub IsInHole : Hole → Half → Type 0
IsInHole hole h = IsIn hole.left hole.right h.u × IsIn hole.bottom hole.top h.v

-- the half squares of a box
abbrev pub hole_of : HalfBox → Hole
hole_of one = record { left = one.columns.low; right = one.columns.high; bottom = one.rows.low; top = one.rows.high }

-- the half squares that a defect of side `s` at the cell `c` has
abbrev pub hole_at : Cell → ℕ → Hole
hole_at c s = record {
  left = c.i +ℤ c.i +ℤ pos 1 -ℤ pos s;
  right = c.i +ℤ c.i +ℤ pos 1 +ℤ pos s;
  bottom = c.j +ℤ c.j +ℤ pos 1 -ℤ pos s;
  top = c.j +ℤ c.j +ℤ pos 1 +ℤ pos s;
}

-- the half square lies outside the hole, and shares an edge or a corner with one inside
pub record IsRound (hole : Hole) (h : Half) : Type 0 where
  pub outside : IsInHole hole h → ⊥
  pub inner : Half
  pub inside : IsInHole hole inner
  pub beside : IsWithin h.u inner.u (pos 1)
  pub level : IsWithin h.v inner.v (pos 1)

-- how many steps lead along a row of the ring, and along a column of it: one more than the hole has half squares there
abbrev pub steps_across : Hole → ℤ
steps_across hole = hole.right -ℤ hole.left +ℤ pos 1

abbrev pub steps_up : Hole → ℤ
steps_up hole = hole.top -ℤ hole.bottom +ℤ pos 1

-- of so many steps, of which the first leads on from the number `first`, how many lead to the number `k`
unfoldable pub steps_before : ℤ → ℤ → ℤ → ℤ
steps_before first count k = int_min count (int_max (pos 0) (k -ℤ first))

-- The half square of the ring with the number `k`. The ring goes round the hole counterclockwise: from the lower left corner to
-- the right, up, to the left, and down to the one before the first.
abbrev pub ring_of : Hole → ℤ → Half
ring_of hole k =
    let across = steps_across hole in
    let up = steps_up hole in
    record {
      u = hole.left -ℤ pos 1 +ℤ steps_before (pos 0) across k -ℤ steps_before (across +ℤ up) across k;
      v = hole.bottom -ℤ pos 1 +ℤ steps_before across up k -ℤ steps_before (across +ℤ up +ℤ across) up k;
    }

-- how many half squares the ring has
abbrev pub ring_length : Hole → ℤ
ring_length hole = steps_across hole +ℤ steps_up hole +ℤ steps_across hole +ℤ steps_up hole

-- the number is one of the ring's, which go from 0
abbrev pub IsRingNumber : Hole → ℤ → Type 0
IsRingNumber hole k = IsIn (pos 0) (ring_length hole) k

-- Of the numbers from 0 to before `length` the set has those from `from` to before `to`, or all but those. So none of them, all,
-- and each run of consecutive ones are one arc, and a run is one that goes on from the last number to 0, too.
pub record IsArc (length : ℤ) (set : ℤ → Type 0) : Type 0 where
  pub from : ℤ
  pub to : ℤ
  pub either : ((k : ℤ) → IsIn (pos 0) length k → set k ↔ IsIn from to k) ⊎
      ((k : ℤ) → IsIn (pos 0) length k → set k ↔ (IsIn from to k → ⊥))

-- what the set of half squares has of the ring is one arc
abbrev pub HasOneArc : Hole → (Half → Type 0) → Type 0
HasOneArc hole set = IsArc (ring_length hole) (λ k. set (ring_of hole k))
