-- what is checked of a shape, and the fault where a check fails
use Rattle.std.specs.Prelude.{ℕ, ℤ, pos, neg_ℤ, ◌*ℤ◌, ◌≡◌, ◌≢◌, ◌≤ℤ◌, ◌<ℤ◌, ◌==◌, nat_abs, if◌then◌else◌, List, [], ◌∷◌, ◌++◌, map, All}
use Rattle.std.specs.Prelude.{Contains}
use Rattle.geo_core.specs.declared.plane.Point.{Point}
use Rattle.library_model.specs.declared.element.ShapeKind.{ShapeKind}
use Rattle.library_model.specs.declared.element.ShapeKind.TheVariants.{Boundary, BoxElement, Path}
use Rattle.outlines.specs.Outlines.{Edge, IsAlongAxis, edges_of}
use Rattle.rect_cover.specs.PathPieces.{Box, style_of, half_width_of, direction_of, opposite, corners_of, neighbours, pieces_of, box_of}
use Rattle.rect_cover.specs.declared.fault.CoverFault.{CoverFault}
use Rattle.rect_cover.specs.declared.fault.CoverFault.TheVariants.{RoundPath, BadExtension, OddWidth, PointPath, NotRectilinear, Reversal}
use Rattle.rect_cover.specs.declared.fault.CoverFault.TheVariants.{OutOfRange}
use Rattle.rect_cover.specs.declared.style.PathStyle.{PathStyle}

-- what is checked of a shape: of its points, of the style of a path, or of both
pub data ShapeCheck : Type 0 where
  is_not_round : PathStyle → ShapeCheck
  has_known_ends : PathStyle → ShapeCheck
  has_even_width : PathStyle → ShapeCheck
  has_different_points : ShapeCheck
  is_rectilinear : ShapeCheck
  has_no_reversal : ShapeCheck
  has_long_pieces : PathStyle → ShapeCheck
  is_within : PathStyle → ShapeCheck

-- The checks of a path of this style that has a width, in their order: first those of its style, then those of its points as they
-- stand, then that it does not turn back, and last those of the rectangles of its pieces.
abbrev pub style_checks : PathStyle → List ShapeCheck
style_checks style = is_not_round style ∷ has_known_ends style ∷ has_even_width style ∷ []

abbrev pub point_checks : List ShapeCheck
point_checks = has_different_points ∷ is_rectilinear ∷ []

abbrev pub box_checks : PathStyle → List ShapeCheck
box_checks style = has_long_pieces style ∷ is_within style ∷ []

abbrev pub path_checks : PathStyle → List ShapeCheck
path_checks style = style_checks style ++ (point_checks ++ has_no_reversal ∷ box_checks style)

-- the checks of a shape: an outline has one, and a path of width 0 has none
abbrev pub checks_of : ShapeKind → List ShapeCheck
checks_of Boundary = is_rectilinear ∷ []
checks_of BoxElement = is_rectilinear ∷ []
checks_of (Path pathtype width begin end) = if nat_abs width == 0 then [] else path_checks (style_of pathtype width begin end)

-- not all points are equal
abbrev pub HasDifferentPoints : List Point → Type 0
HasDifferentPoints points = (one other : Point) × Contains points one × Contains points other × (one ≢ other)

-- the ends of a path are flush, round, half a width further, or at extensions of their own
abbrev pub IsKnownPathtype : ℤ → Type 0
IsKnownPathtype pathtype = Contains (pos 0 ∷ pos 1 ∷ pos 2 ∷ pos 4 ∷ []) pathtype

-- the number is twice another
abbrev pub IsEven : ℤ → Type 0
IsEven z = (half : ℤ) × (z ≡ pos 2 *ℤ half)

-- the path does not turn back from the one edge to the next
abbrev pub GoesOn : Edge × Edge → Type 0
GoesOn pair = direction_of pair.1 ≢ opposite (direction_of pair.0)

-- the rectangle has a cell
pub record HasCells (box : Box) : Type 0 where
  pub across : box.x0 <ℤ box.x1
  pub up : box.y0 <ℤ box.y1

-- no side of the rectangle lies more than 1,000,000,000 from 0
pub record IsBoxInLayout (box : Box) : Type 0 where
  pub left : neg_ℤ (pos 1000000000) ≤ℤ box.x0
  pub right : box.x1 ≤ℤ pos 1000000000
  pub bottom : neg_ℤ (pos 1000000000) ≤ℤ box.y0
  pub top : box.y1 ≤ℤ pos 1000000000

-- the rectangles of a path's pieces
abbrev pub boxes_of : PathStyle → List Point → List Box
boxes_of style points = map (box_of (half_width_of style)) (pieces_of style points)

-- what each demands of a shape whose points come to lie here
abbrev pub ShapeHolds : List Point → ShapeCheck → Type 0
ShapeHolds points (is_not_round style) = style.pathtype ≢ pos 1
ShapeHolds points (has_known_ends style) = IsKnownPathtype style.pathtype
ShapeHolds points (has_even_width style) = IsEven style.width
ShapeHolds points has_different_points = HasDifferentPoints points
ShapeHolds points is_rectilinear = All IsAlongAxis (edges_of points)
ShapeHolds points has_no_reversal = All GoesOn (neighbours (edges_of (corners_of points)))
ShapeHolds points (has_long_pieces style) = All HasCells (boxes_of style points)
ShapeHolds points (is_within style) = All IsBoxInLayout (boxes_of style points)

-- the fault that each gives where it fails, of a shape that begins at this offset
abbrev pub shape_fault : ℕ → ShapeCheck → CoverFault
shape_fault at (is_not_round style) = RoundPath at
shape_fault at (has_known_ends style) = BadExtension at
shape_fault at (has_even_width style) = OddWidth at
shape_fault at has_different_points = PointPath at
shape_fault at is_rectilinear = NotRectilinear at
shape_fault at has_no_reversal = Reversal at
shape_fault at (has_long_pieces style) = BadExtension at
shape_fault at (is_within style) = OutOfRange at
