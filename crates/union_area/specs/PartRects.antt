-- rectangles that have the wanted cells of a part of a window
use Rattle.std.specs.Prelude.{List, ◌≡◌, ◌⊎◌, ◌↔◌}
use Rattle.geo_core.specs.Plane.{Has, IsInUnion}
use Rattle.geo_core.specs.declared.plane.Cell.{Cell}
use Rattle.geo_core.specs.declared.plane.Rect.{Rect}
use Rattle.skyline_runs.specs.Depths.{depth_of}
use Rattle.skyline_runs.specs.Runs.{AreApart}

-- each cell of the part lies in as many rectangles of the one list as of the other, and no other cell lies in one
pub record AreClipped (rects : List Rect) (part : Rect) (inside : List Rect) : Type 0 where
  pub within : (c : Cell) → Has part c → depth_of inside c ≡ depth_of rects c
  pub outside : (c : Cell) → (Has part c → ⊥) → depth_of inside c ≡ 0

-- they have exactly the wanted cells of the part, and no cell in common
pub record AreRectsOf (wanted : Cell → Type 0) (part : Rect) (rects : List Rect) : Type 0 where
  pub cells : (c : Cell) → IsInUnion rects c ↔ (wanted c × Has part c)
  pub apart : AreApart rects

-- a list without common cells gains the wanted cells of the part, of which it had none
pub record GainsPart (wanted : Cell → Type 0) (part : Rect) (old new : List Rect) : Type 0 where
  pub cells : (c : Cell) → IsInUnion new c ↔ (IsInUnion old c ⊎ (wanted c × Has part c))
  pub apart : AreApart old → ((c : Cell) → IsInUnion old c → Has part c → ⊥) → AreApart new
