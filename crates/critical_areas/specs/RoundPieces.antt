-- rectangles round others
use Rattle.std.specs.Prelude.{List, Contains}
use Rattle.geo_core.specs.Plane.{Has}
use Rattle.geo_core.specs.declared.plane.Cell.{Cell}
use Rattle.geo_core.specs.declared.plane.Rect.{Rect}

-- the hull has all cells of each of the rectangles
abbrev pub IsRound : Rect → List Rect → Type 0
IsRound hull rects = (rect : Rect) (c : Cell) → Contains rects rect → Has rect c → Has hull c
