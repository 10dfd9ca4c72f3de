-- the ranges of the numbers in a library
use Rattle.std.specs.Prelude.{FitsSigned, ℤ, List, All, ◌≤◌, ◌^◌, nat_abs}
use Rattle.lists.specs.Words.{w16, w32, Unit-prop, props}
use Rattle.geo_core.specs.declared.plane.Point.{Point}
use Rattle.library_model.specs.declared.element.ShapeKind.{ShapeKind}
use Rattle.library_model.specs.declared.element.ShapeKind.TheVariants.{Boundary, BoxElement, Path}

-- the coordinates of the point fit four bytes each, with sign
pub record IsPoint (p : Point) : Type 0 where
  pub across : FitsSigned w32 p.x
  pub up : FitsSigned w32 p.y

-- those of each point do
abbrev pub ArePoints : List Point → Type 0
ArePoints points = All IsPoint points

-- the numbers of the shape's kind fit two bytes and four bytes, with sign
abbrev pub IsKind : ShapeKind → Type 0
IsKind Boundary = Unit {0}
IsKind BoxElement = Unit {0}
IsKind (Path pathtype width begin end) = FitsSigned w16 pathtype × FitsSigned w32 width × FitsSigned w32 begin × FitsSigned w32 end

-- this holds in one way at most
abbrev pub IsKind-prop : (kind : ShapeKind) → IsProp (IsKind kind)
IsKind-prop Boundary = Unit-prop
IsKind-prop BoxElement = Unit-prop
IsKind-prop (Path pathtype width begin end) = hlevel props

-- the step of a column or of a row is a difference of two points: each coordinate lies within 2^32 of 0
pub record IsStep (step : ℤ × ℤ) : Type 0 where
  pub across : nat_abs step.0 ≤ 2 ^ 32
  pub up : nat_abs step.1 ≤ 2 ^ 32
