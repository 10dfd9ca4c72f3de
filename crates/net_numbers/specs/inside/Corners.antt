-- lower left cells of pieces, with the labels of these
use Rattle.std.specs.Prelude.{List, All, AllPairs, Any, map, ◌<◌, ◌≡◌}
use Rattle.geo_core.specs.declared.plane.Cell.{Cell}
use Rattle.geo_core.specs.declared.plane.Labelled.{Labelled}
use Rattle.net_numbers.specs.FirstCells.{IsFirstCell}
use Rattle.net_numbers.specs.declared.corners.Corner.{Corner}

-- the lower left cell of the piece
abbrev pub corner_of : Labelled → Corner
corner_of piece = record { label = piece.label; cell = record { i = piece.rect.x0; j = piece.rect.y0 } }

-- the cells of the corners
abbrev pub cells_of : List Corner → List Cell
cells_of corners = map (λ corner. corner.cell) corners

-- the first cell of each label, in the order of the labels
pub record AreFirstCorners (pieces : List Labelled) (corners : List Corner) : Type 0 where
  pub by_label : AllPairs (λ a b. a.label < b.label) corners
  pub first : All (λ corner. IsFirstCell pieces corner.label corner.cell) corners
  pub all : All (λ piece. Any (λ corner. corner.label ≡ piece.label) corners) pieces
