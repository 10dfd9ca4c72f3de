-- the rectangles of pieces as the code has them
use Rattle.geo_core.specs.declared.plane.Rect.{Rect}
use Rattle.rect_cover.specs.PathPieces.{Box, Knot}
use Rattle.rect_cover.specs.declared.piece.PathCorner.{PathCorner}
use Rattle.rect_cover.specs.declared.piece.PieceBox.{PieceBox}

-- a corner with its reach
abbrev pub knot_of : PathCorner → Knot
knot_of corner = (corner.point, corner.reach)

-- a rectangle that may have no cell
abbrev pub box_value : PieceBox → Box
box_value piece = record { x0 = piece.x0; y0 = piece.y0; x1 = piece.x1; y1 = piece.y1 }

-- a rectangle of cells
abbrev pub rect_value : Rect → Box
rect_value rect = record { x0 = rect.x0; y0 = rect.y0; x1 = rect.x1; y1 = rect.y1 }
