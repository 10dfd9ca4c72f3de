-- what lies on pieces
use Rattle.std.specs.Prelude.{List, All}
use Rattle.geo_core.specs.Plane.{Has, IsInUnion}
use Rattle.geo_core.specs.declared.plane.Cell.{Cell}
use Rattle.geo_core.specs.declared.plane.Rect.{Rect}
use Rattle.fault_model.specs.declared.island.Spot.{Spot}

-- the pieces have all cells of the rectangle
abbrev pub IsOnPieces : List Rect → Rect → Type 0
IsOnPieces pieces rect = (c : Cell) → Has rect c → IsInUnion pieces c

-- and those of each rectangle of the spot
abbrev pub IsSpotOnPieces : List Rect → Spot → Type 0
IsSpotOnPieces pieces spot = All (IsOnPieces pieces) spot.rects
