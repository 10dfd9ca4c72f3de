-- the cells inside an outline, by winding numbers
use Rattle.std.specs.Prelude.{ℤ, pos, ◌-ℤ◌, ◌≡◌, ◌≢◌, ◌⊎◌, Bool, ◌&&◌, int_le, int_lt, List, drop, zip, count_by}
use Rattle.geo_core.specs.declared.plane.Point.{Point}
use Rattle.geo_core.specs.declared.plane.Cell.{Cell}

-- an edge: from one point to the next
abbrev pub Edge : Type 0
Edge = Point × Point

-- the edges between neighbouring points, in their order
abbrev pub edges_of : List Point → List Edge
edges_of points = zip points (drop 1 points)

-- the ends of the edge do not differ in both coordinates
abbrev pub IsAlongAxis : Edge → Type 0
IsAlongAxis edge = (edge.0.x ≡ edge.1.x) ⊎ (edge.0.y ≡ edge.1.y)

-- whether a vertical edge has the cell on its right: it may stand at the cell's own left side
abbrev pub is_left_of : Cell → Edge → Bool
is_left_of c edge = int_le edge.0.x c.i

-- whether the edge goes up across a row
abbrev pub goes_up_across : ℤ → Edge → Bool
goes_up_across row edge = int_le edge.0.y row && int_lt row edge.1.y

-- whether it goes down across the row
abbrev pub goes_down_across : ℤ → Edge → Bool
goes_down_across row edge = int_le edge.1.y row && int_lt row edge.0.y

-- How often the edges wind round a cell: how many on its left go up across its row, less how many go down. The points
-- are those of a closed outline, each edge along an axis.
abbrev pub winding_number : List Point → Cell → ℤ
winding_number points c =
    pos (count_by (λ edge. is_left_of c edge && goes_up_across c.j edge) (edges_of points))
    -ℤ pos (count_by (λ edge. is_left_of c edge && goes_down_across c.j edge) (edges_of points))

-- the outline through these points winds round the cell, in whichever direction and however often
abbrev pub IsInside : List Point → Cell → Type 0
IsInside points c = winding_number points c ≢ pos 0
