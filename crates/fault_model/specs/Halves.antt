-- half squares: four to a cell, and which of them are covered, and which a defect has
use Rattle.std.specs.Prelude.{ℤ, pos, ℕ, ◌+ℤ◌, ◌-ℤ◌, ◌≡◌, ◌⊎◌}
use Rattle.geo_core.specs.Plane.{IsIn, Adjoins}
use Rattle.geo_core.specs.declared.plane.Cell.{Cell}
use Rattle.geo_core.specs.declared.plane.Half.{Half}

-- `u` is 2i or 2i+1: one of the two half units of the unit `i`
abbrev pub IsHalfOf : ℤ → ℤ → Type 0
IsHalfOf u i = IsIn (i +ℤ i) (i +ℤ i +ℤ pos 2) u

-- the half square lies in the cell
abbrev pub LiesIn : Half → Cell → Type 0
LiesIn h c = IsHalfOf h.u c.i × IsHalfOf h.v c.j

-- the half square lies in a covered cell
abbrev pub IsOn : (Cell → Type 0) → Half → Type 0
IsOn covered h = (c : Cell) × LiesIn h c × covered c

-- the half squares share an edge
abbrev pub Neighbours : Half → Half → Type 0
Neighbours p q = ((p.v ≡ q.v) × Adjoins p.u q.u) ⊎ ((p.u ≡ q.u) × Adjoins p.v q.v)

-- 2i+1-s ≤ u < 2i+1+s: the half unit `u` lies under a defect of side `s` round the middle of the unit `i`
abbrev pub IsUnder : ℤ → ℕ → ℤ → Type 0
IsUnder i s u = IsIn (i +ℤ i +ℤ pos 1 -ℤ pos s) (i +ℤ i +ℤ pos 1 +ℤ pos s) u

-- the half square lies in the open square of side `s` round the cell's centre; a radius `r` is the side `r + r`
abbrev pub IsInFootprint : Cell → ℕ → Half → Type 0
IsInFootprint c s h = IsUnder c.i s h.u × IsUnder c.j s h.v

-- the footprint at `c` has a half square of the cell `d`
abbrev pub IsTouched : Cell → ℕ → Cell → Type 0
IsTouched c s d = (h : Half) × LiesIn h d × IsInFootprint c s h

-- the footprint at `c` has all half squares of the cell `d`
abbrev pub IsSwallowed : Cell → ℕ → Cell → Type 0
IsSwallowed c s d = (h : Half) → LiesIn h d → IsInFootprint c s h

-- the cells have a corner in common, and no edge
abbrev pub MeetAtCorner : Cell → Cell → Type 0
MeetAtCorner c d = Adjoins c.i d.i × Adjoins c.j d.j
