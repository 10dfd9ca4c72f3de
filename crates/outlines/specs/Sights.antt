-- other ways to look at what a shape covers, of which the laws speak
use Rattle.std.specs.Prelude.{ℤ, pos, ◌+ℤ◌, ◌-ℤ◌, Bool, ◌&&◌, int_lt, List, [], ◌∷◌, count_by}
use Rattle.geo_core.specs.declared.plane.Point.{Point}
use Rattle.geo_core.specs.declared.plane.Cell.{Cell}
use Rattle.outlines.specs.Outlines.{Edge, edges_of, goes_up_across, goes_down_across}

-- whether a vertical edge has the cell on its left
abbrev pub is_right_of : Cell → Edge → Bool
is_right_of c edge = int_lt c.i edge.0.x

-- how many edges on the cell's right go up across its row, less how many go down
abbrev pub winding_number_by_right : List Point → Cell → ℤ
winding_number_by_right points c =
    pos (count_by (λ edge. is_right_of c edge && goes_up_across c.j edge) (edges_of points))
    -ℤ pos (count_by (λ edge. is_right_of c edge && goes_down_across c.j edge) (edges_of points))

-- the cell, shifted by as much as the point lies from the origin
abbrev pub shifted_cell : Point → Cell → Cell
shifted_cell by c = record { i = c.i +ℤ by.x; j = c.j +ℤ by.y }

-- the point with these coordinates
abbrev pub point : ℤ → ℤ → Point
point x y = record { x = x; y = y }

-- Clockwise round a rectangle, which is the columns from x0 to x2, and from its lower left corner on round its part from the column
-- x1 on: in the same direction, or in the other.
abbrev pub part_again : ℤ → ℤ → ℤ → ℤ → ℤ → List Point
part_again x0 x1 x2 y0 y1 =
    point x0 y0 ∷ point x0 y1 ∷ point x2 y1 ∷ point x2 y0 ∷ point x0 y0
    ∷ point x1 y0 ∷ point x1 y1 ∷ point x2 y1 ∷ point x2 y0 ∷ point x1 y0 ∷ point x0 y0 ∷ []

abbrev pub part_back : ℤ → ℤ → ℤ → ℤ → ℤ → List Point
part_back x0 x1 x2 y0 y1 =
    point x0 y0 ∷ point x0 y1 ∷ point x2 y1 ∷ point x2 y0 ∷ point x0 y0
    ∷ point x1 y0 ∷ point x2 y0 ∷ point x2 y1 ∷ point x1 y1 ∷ point x1 y0 ∷ point x0 y0 ∷ []
