-- which cells a shape covers
use Rattle.std.specs.Prelude.{pos, ◌≢◌, List, Contains}
use Rattle.geo_core.specs.Plane.{IsIn}
use Rattle.geo_core.specs.declared.plane.Point.{Point}
use Rattle.geo_core.specs.declared.plane.Cell.{Cell}
use Rattle.library_model.specs.declared.element.ShapeKind.{ShapeKind}
use Rattle.library_model.specs.declared.element.ShapeKind.TheVariants.{Boundary, BoxElement, Path}
use Rattle.outlines.specs.Outlines.{IsInside}
use Rattle.rect_cover.specs.PathPieces.{Box, Piece, style_of, box_of, pieces_of, half_width_of}
use Rattle.rect_cover.specs.declared.style.PathStyle.{PathStyle}

-- the cell lies in the rectangle
pub record IsInBox (box : Box) (c : Cell) : Type 0 where
  pub across : IsIn box.x0 box.x1 c.i
  pub up : IsIn box.y0 box.y1 c.j

-- a piece of the path has the cell in its rectangle
pub record IsInPiece (style : PathStyle) (points : List Point) (c : Cell) : Type 0 where
  pub piece : Piece
  pub among : Contains (pieces_of style points) piece
  pub has : IsInBox (box_of (half_width_of style) piece) c

-- A shape of this kind, whose points come to lie here, covers the cell. An outline covers the cells round which it winds, in
-- whichever direction and however often. A path covers what its pieces have, and nothing where its width is 0.
abbrev pub Covers : ShapeKind → List Point → Cell → Type 0
Covers Boundary points c = IsInside points c
Covers BoxElement points c = IsInside points c
Covers (Path pathtype width begin end) points c = (width ≢ pos 0) × IsInPiece (style_of pathtype width begin end) points c
