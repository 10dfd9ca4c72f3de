-- the straight pieces of a path, and what each reaches past its two ends
use Rattle.std.specs.Prelude.{ℤ, pos, ◌+ℤ◌, ◌-ℤ◌, ◌-◌, ◌/◌, nat_abs, Bool, true, false, not, ◌&&◌, ◌||◌, if◌then◌else◌, int_le, int_lt}
use Rattle.std.specs.Prelude.{List, [], ◌∷◌, ◌++◌, map, filter, zip, drop, take, length, replicate}
use Rattle.geo_core.specs.declared.plane.Point.{Point}
use Rattle.outlines.specs.Outlines.{Edge, edges_of}
use Rattle.rect_cover.specs.declared.direction.Direction.{Direction}
use Rattle.rect_cover.specs.declared.direction.Direction.TheVariants.{Right, Up, Left, Down}
use Rattle.rect_cover.specs.declared.style.PathStyle.{PathStyle}

-- the style of a path that says this of its ends and its width
abbrev pub style_of : ℤ → ℤ → ℤ → ℤ → PathStyle
style_of pathtype width begin end = record { pathtype = pathtype; width = width; begin = begin; end = end }

-- half the amount of the width: a sign only says that the width is not scaled
abbrev pub half_width_of : PathStyle → ℤ
half_width_of style = pos (nat_abs style.width / 2)

-- whether the two ends of an edge differ
abbrev pub is_long : Edge → Bool
is_long edge = (int_lt edge.0.x edge.1.x || int_lt edge.1.x edge.0.x) || (int_lt edge.0.y edge.1.y || int_lt edge.1.y edge.0.y)

-- where an edge along an axis leads, whose ends differ
abbrev pub direction_of : Edge → Direction
direction_of edge =
    if int_lt edge.0.x edge.1.x then Right
    else (if int_lt edge.1.x edge.0.x then Left
    else (if int_lt edge.0.y edge.1.y then Up else Down))

-- the way back
abbrev pub opposite : Direction → Direction
opposite Right = Left
opposite Up = Down
opposite Left = Right
opposite Down = Up

-- whether two directions are the same
abbrev pub is_same : Direction → Direction → Bool
is_same Right Right = true
is_same Up Up = true
is_same Left Left = true
is_same Down Down = true
is_same one other = false

-- the points without those that repeat the one before them
abbrev pub distinct_points : List Point → List Point
distinct_points points = take 1 points ++ map (λ edge. edge.1) (filter is_long (edges_of points))

-- the neighbours in a list of edges
abbrev pub neighbours : List Edge → List (Edge × Edge)
neighbours edges = zip edges (drop 1 edges)

-- of two points or more the first, each at which the direction changes, and the last: a path goes straight through all others
abbrev pub corners_among : List Point → List Point
corners_among points =
    take 1 points
    ++ (map (λ pair. pair.1.0) (filter (λ pair. not (is_same (direction_of pair.0) (direction_of pair.1))) (neighbours (edges_of points)))
    ++ drop (length points - 1) points)

-- the corners of a path, its two ends among them
abbrev pub corners_of : List Point → List Point
corners_of points = corners_among (distinct_points points)

-- whether the two numbers are the same
abbrev pub are_equal : ℤ → ℤ → Bool
are_equal one other = int_le one other && int_le other one

-- How far a path reaches past one of its two ends, where this is its PATHTYPE. At 2 it is half the width, at 4 the extension that it
-- says for this end. At 0 its ends are flush.
abbrev pub reach_past : ℤ → ℤ → ℤ → ℤ
reach_past pathtype half_width extension =
    if are_equal pathtype (pos 2) then half_width else (if are_equal pathtype (pos 4) then extension else pos 0)

-- how far it reaches past its first point, and past its last
abbrev pub reach_before : PathStyle → ℤ
reach_before style = reach_past style.pathtype (half_width_of style) style.begin

abbrev pub reach_behind : PathStyle → ℤ
reach_behind style = reach_past style.pathtype (half_width_of style) style.end

-- a corner of a path, and how far pieces reach past it
abbrev pub Knot : Type 0
Knot = Point × ℤ

-- the corners, each with its reach: at a corner between two pieces both reach half a width past it, which fills its outer side
abbrev pub knots_at : PathStyle → List Point → List Knot
knots_at style corners =
    zip corners
    (reach_before style ∷ (replicate (length corners - 2) (half_width_of style) ++ reach_behind style ∷ []))

-- the pieces, each from one corner to the next
abbrev pub Piece : Type 0
Piece = Knot × Knot

abbrev pub pieces_between : PathStyle → List Point → List Piece
pieces_between style corners = zip (knots_at style corners) (drop 1 (knots_at style corners))

-- the pieces of a path through these points
abbrev pub pieces_of : PathStyle → List Point → List Piece
pieces_of style points = pieces_between style (corners_of points)

-- a rectangle of the plane, without bounds: it may have no cell
pub record Box : Type 0 where
  pub x0 : ℤ
  pub y0 : ℤ
  pub x1 : ℤ
  pub y1 : ℤ

-- the rectangle of a piece, by where it leads
abbrev pub box_towards : Direction → ℤ → Piece → Box
box_towards Right half_width piece = record {
  x0 = piece.0.0.x -ℤ piece.0.1;
  x1 = piece.1.0.x +ℤ piece.1.1;
  y0 = piece.0.0.y -ℤ half_width;
  y1 = piece.0.0.y +ℤ half_width;
}
box_towards Left half_width piece = record {
  x0 = piece.1.0.x -ℤ piece.1.1;
  x1 = piece.0.0.x +ℤ piece.0.1;
  y0 = piece.0.0.y -ℤ half_width;
  y1 = piece.0.0.y +ℤ half_width;
}
box_towards Up half_width piece = record {
  x0 = piece.0.0.x -ℤ half_width;
  x1 = piece.0.0.x +ℤ half_width;
  y0 = piece.0.0.y -ℤ piece.0.1;
  y1 = piece.1.0.y +ℤ piece.1.1;
}
box_towards Down half_width piece = record {
  x0 = piece.0.0.x -ℤ half_width;
  x1 = piece.0.0.x +ℤ half_width;
  y0 = piece.1.0.y -ℤ piece.1.1;
  y1 = piece.0.0.y +ℤ piece.0.1;
}

-- the rectangle of a piece of a path with this half width
abbrev pub box_of : ℤ → Piece → Box
box_of half_width piece = box_towards (direction_of (piece.0.0, piece.1.0)) half_width piece
