-- what is near a tile
use Rattle.std.specs.Prelude.{ℕ, pos, List, Contains, ◌↔◌}
use Rattle.geo_core.specs.Plane.{Has, ComesNear}
use Rattle.geo_core.specs.declared.plane.Cell.{Cell}
use Rattle.geo_core.specs.declared.plane.Rect.{Rect}
use Rattle.near_index.specs.Kept.{AreKept}

-- the tile has a cell of the rectangle, grown by the reach
abbrev pub IsNearTile : Rect → ℕ → Rect → Type 0
IsNearTile tile reach rect = (c : Cell) × Has tile c × ComesNear rect (pos reach) c

-- the second list has those things of the first whose rectangles are near the tile, in order
abbrev pub AreNear : {T : Type 0} → (T → Rect) → Rect → ℕ → List T → List T → Type 0
AreNear rect_of tile reach = AreKept (λ thing. IsNearTile tile reach (rect_of thing))

-- the second list has exactly those things of the first whose rectangles are near the tile, in any order
pub record HasExactlyNear {T : Type 0} (rect_of : T → Rect) (tile : Rect) (reach : ℕ) (things found : List T) : Type 0 where
  pub same : (thing : T) → Contains found thing ↔ (Contains things thing × IsNearTile tile reach (rect_of thing))
