-- what an element's own records say, each by its kind
use Rattle.std.specs.Prelude.{ℕ, ℤ, pos, ◌+ℤ◌, ◌*ℤ◌, List, [], map, length, Option, option_map, unwrap_or, find, MatchOption, ◌==◌, ◌+◌}
use Rattle.std.specs.Prelude.{◌*◌, ◌/◌, ◌%◌, ◌^◌, ◌≡◌}
use Rattle.lists.specs.Words.{w16, w32, range_with_len}
use Rattle.std.specs.Int.{cast_signed}
use Rattle.geo_core.specs.declared.plane.Point.{Point}
use Rattle.gds_records.specs.declared.kinds.TheConstants as kind
use Rattle.gds_records.specs.Fields.{item}
use Rattle.gds_records.specs.RecordSpelling.{Entry}
use Rattle.gds_records.specs.Reals.{HasValue}

-- the body of the record of this kind, if there is one
abbrev pub field : ℕ → List Entry → Option (List ℕ)
field k own = option_map (λ e. e.body) (find (λ e. e.kind == k) own)

-- the body of the record of this kind, or no bytes where it is absent
abbrev pub body_of : ℕ → List Entry → List ℕ
body_of k own = unwrap_or (field k own) []

-- point k of a body of points: two coordinates of four bytes each
abbrev pub point_in : List ℕ → ℕ → Point
point_in body k = record { x = cast_signed w32 (item 4 (2 * k) body); y = cast_signed w32 (item 4 (2 * k + 1) body) }

-- the points of a body
abbrev pub points_in : List ℕ → List Point
points_in body = map (point_in body) (range_with_len 0 (length body / 8))

-- the points of the element
abbrev pub points_of : List Entry → List Point
points_of own = points_in (body_of kind.XY own)

-- a number of two bytes without sign, which is 0 where the record is absent
abbrev pub unsigned_of : ℕ → List Entry → ℕ
unsigned_of k own = item 2 0 (body_of k own)

-- a number of two bytes with sign, which is 0 where the record is absent
abbrev pub short_of : ℕ → List Entry → ℤ
short_of k own = unwrap_or (option_map (λ body. cast_signed w16 (item 2 0 body)) (field k own)) (pos 0)

-- a number of four bytes with sign, which is 0 where the record is absent
abbrev pub long_of : ℕ → List Entry → ℤ
long_of k own = unwrap_or (option_map (λ body. cast_signed w32 (item 4 0 body)) (field k own)) (pos 0)

-- the reference is mirrored: bit 0 of STRANS, the highest, is set
abbrev pub IsMirrored : List Entry → Type 0
IsMirrored own = unsigned_of kind.STRANS own / 2 ^ 15 ≡ 1

-- the angle is absolute: bit 14 of STRANS, the second lowest, is set
abbrev pub HasAbsoluteAngle : List Entry → Type 0
HasAbsoluteAngle own = unsigned_of kind.STRANS own / 2 % 2 ≡ 1

-- the angle is this number of quarters of a circle, counterclockwise; no ANGLE is none
abbrev pub HasQuarters : List Entry → ℤ → Type 0
HasQuarters own quarters = MatchOption (field kind.ANGLE own) (quarters ≡ pos 0) (λ body. HasValue body (pos 90 *ℤ quarters))

-- COLROW: how many columns an array has, with sign
abbrev pub columns_of : List Entry → ℤ
columns_of own = cast_signed w16 (item 2 0 (body_of kind.COLROW own))

-- and how many rows
abbrev pub rows_of : List Entry → ℤ
rows_of own = cast_signed w16 (item 2 1 (body_of kind.COLROW own))

-- so many equal steps lead from one point to another
pub record Leads (count : ℤ) (from to : Point) (step : ℤ × ℤ) : Type 0 where
  pub across : from.x +ℤ (count *ℤ step.0) ≡ to.x
  pub up : from.y +ℤ (count *ℤ step.1) ≡ to.y

-- the steps of an array: as many as there are columns lead from its first point to its second, and as many as there are rows
-- from its first to its third
pub record HasSteps (own : List Entry) (column_step row_step : ℤ × ℤ) : Type 0 where
  pub columns : Leads (columns_of own) (point_in (body_of kind.XY own) 0) (point_in (body_of kind.XY own) 1) column_step
  pub rows : Leads (rows_of own) (point_in (body_of kind.XY own) 0) (point_in (body_of kind.XY own) 2) row_step
