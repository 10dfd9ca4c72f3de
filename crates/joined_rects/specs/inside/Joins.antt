-- rectangles that are joined, and lists of them
use Rattle.std.specs.Prelude.{List, ◌≡◌, ◌≤◌, ◌⊎◌, ◌↔◌, length}
use Rattle.geo_core.specs.Plane.{Has}
use Rattle.geo_core.specs.declared.plane.Cell.{Cell}
use Rattle.geo_core.specs.declared.plane.Rect.{Rect}
use Rattle.skyline_runs.specs.Depths.{depth_of}

-- each cell of the last rectangle lies in one of the first two and not in the other, and they have no other cells
pub record AreHalvesOf (one next both : Rect) : Type 0 where
  pub cells : (c : Cell) → Has both c ↔ (Has one c ⊎ Has next c)
  pub apart : (c : Cell) → Has one c → Has next c → ⊥

-- each cell lies in as many rectangles of the one list as of the other, and that has no more of them
pub record IsJoined (rects joined : List Rect) : Type 0 where
  pub depths : (c : Cell) → depth_of joined c ≡ depth_of rects c
  pub fewer : length joined ≤ length rects
